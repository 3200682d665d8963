use Rattle.net_run.specs.Seeing.{seen}
use Rattle.net_run.specs.Advancing.{AreNext}
use Rattle.net_run.proofs.advancing.next_registers.Given as goal

abbrev pub invariant-loop-number : goal.invariant-loop-number
invariant-loop-number l = AreNext l.cycle.net.now (seen l.cycle.net.now l.cycle.values.now l.cycle.contents.now) l.held l.number l.values.items
