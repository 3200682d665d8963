use Rattle.std.proofs.Common.{sym, ap}
use Rattle.fir_types.specs.Memories.{element_in}
use Rattle.fir_types.proofs.Lines.{first_line, none_more, not_element}
use Rattle.fir_types.proofs.bundles.element_of.Goals as goal

pub returns-in-Element : goal.returns-in-Element
returns-in-Element c =
    sym (first_line element_in c.args.lines.now c.loop-line.line-index c.line-item.result c.in-Element.typ c.args.other.now c.loop-line-test.true c.line-item.is c.loop-line.invariant
    (ap element_in c.in-Element.is))

pub loop-line-preserved : goal.loop-line-preserved
loop-line-preserved c =
    none_more element_in c.args.lines.now c.loop-line.line-index c.line-item.result c.loop-line-test.true c.line-item.is c.loop-line.invariant
    (not_element c.line-item.result c.in_default.not-Element)
