use Rattle.std.proofs.Common.{◌≡◌, Some, None, length, sym, ap, ap₂, ◌∙◌}
use Rattle.std.proofs.lemmas.List.{length-map}
use Rattle.prim_ops.specs.declared.widths.Width.TheVariants.{Bits}
use Rattle.prim_ops.specs.Kinds.{row_kind}
use Rattle.prim_ops.specs.Widths.{row_width, width_number}
use Rattle.ground_net.specs.Shapes.{shaped}
use Rattle.ground_exprs.specs.declared.source.Source.{Source}
use Rattle.ground_exprs.proofs.Operations.{kinds_in, widths_in, row_of, row_bits}
use Rattle.ground_exprs.proofs.operation.operation.Goals as goal

pub unreachable-requires : goal.unreachable-requires
unreachable-requires c =
    let row = row_of c.args.prim c.args.params.now c.args.operands c.requires in
    let is : None ≡ Some row.kind = sym c.in_default.is ∙ (c.kind_of.ensures ∙ (ap (row_kind c.args.prim) (c.as_slice.ensures ∙ c.in_ok-parts.ensures.kinds) ∙ row.is_kind)) in cc

pub unreachable-requires-in_default-width_of : goal.unreachable-requires-in_default-width_of
unreachable-requires-in_default-width_of c =
    let row = row_of c.args.prim c.args.params.now c.args.operands c.requires in
    c.in_default-width_of.not-Bits _ (c.width_of.ensures ∙ (ap₂ (λ a b. row_width c.args.prim a b c.args.params.now) (c.as_slice-2.ensures ∙ c.in_ok-parts.ensures.kinds) (c.as_slice-3.ensures ∙ c.in_ok-parts.ensures.widths)
    ∙ row_bits c.args.prim c.args.params.now c.args.operands row))

pub returns-clause-shape : goal.returns-clause-shape
returns-clause-shape c =
    let row = row_of c.args.prim c.args.params.now c.args.operands c.requires in
    let kind : Some row.kind ≡ Some c.in-Some.kind = sym row.is_kind ∙ (sym (ap (row_kind c.args.prim) (c.as_slice.ensures ∙ c.in_ok-parts.ensures.kinds)) ∙ (sym c.kind_of.ensures ∙ c.in-Some.is)) in
    let width : Bits (width_number c.args.prim (kinds_in c.args.operands) (widths_in c.args.operands) c.args.params.now) ≡ Bits c.in-Bits.width
    = sym (row_bits c.args.prim c.args.params.now c.args.operands row) ∙ (sym (ap₂ (λ a b. row_width c.args.prim a b c.args.params.now) (c.as_slice-2.ensures ∙ c.in_ok-parts.ensures.kinds) (c.as_slice-3.ensures ∙ c.in_ok-parts.ensures.widths))
    ∙ (sym c.width_of.ensures ∙ c.in-Bits.is)) in
    let k : row.kind ≡ c.in-Some.kind = cc in
    let w : width_number c.args.prim (kinds_in c.args.operands) (widths_in c.args.operands) c.args.params.now ≡ c.in-Bits.width = cc in
    row.shape ∙ ap₂ (λ a b. Some (shaped a b)) k w

pub kind_of-requires : goal.kind_of-requires
kind_of-requires c =
    let row = row_of c.args.prim c.args.params.now c.args.operands c.requires in
    ap length (c.as_slice.ensures ∙ c.in_ok-parts.ensures.kinds) ∙ (length-map c.args.operands (λ (o : Source). o.kind) ∙ row.operands_fit)
