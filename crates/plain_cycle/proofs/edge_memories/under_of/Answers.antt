use Rattle.std.proofs.Common.{sym, ap}
use Rattle.fir_types.specs.declared.memory.Under.TheVariants.{Undefined}
use Rattle.fir_types.specs.Memories.{under_in}
use Rattle.fir_types.proofs.Lines.{first_line, none_more}
use Rattle.plain_cycle.proofs.OfMemories.{not_under}
use Rattle.plain_cycle.proofs.edge_memories.under_of.Goals as goal

pub returns-in-ReadUnder : goal.returns-in-ReadUnder
returns-in-ReadUnder c =
    sym (first_line under_in c.args.lines.now c.loop-line.line-index c.line-item.result c.in-ReadUnder.under Undefined c.loop-line-test.true c.line-item.is c.loop-line.invariant (ap under_in c.in-ReadUnder.is))

pub loop-line-preserved : goal.loop-line-preserved
loop-line-preserved c =
    none_more under_in c.args.lines.now c.loop-line.line-index c.line-item.result c.loop-line-test.true c.line-item.is c.loop-line.invariant (not_under c.line-item.result c.in_default.not-ReadUnder)
