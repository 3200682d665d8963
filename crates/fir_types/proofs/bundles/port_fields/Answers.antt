use Rattle.std.proofs.Common.{sym, ap, ◌++◌, ◌∙◌, option_to_list}
use Rattle.fir_types.specs.Bundles.{port_field}
use Rattle.fir_types.proofs.Lines.{lines_more}
use Rattle.fir_types.proofs.bundles.port_fields.Goals as goal

pub loop-line-preserved : goal.loop-line-preserved
loop-line-preserved c =
    let h = port_field c.args.elements.typ.now c.args.elements.depth in
    let m = lines_more h c.args.lines.now c.loop-line.line-index c.line-item.result c.loop-line-test.true c.line-item.is in
    c.in_ok-push_port_field.ensures
    ∙ ap (λ ys. ys ++ option_to_list (h c.line-item.result)) c.loop-line.invariant ∙ sym m
