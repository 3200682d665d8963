use Rattle.std.proofs.Common.{take}
use Rattle.width_solver.specs.Rounds.{Wakes}
use Rattle.width_solver.proofs.rounds.wake.Given as goal

abbrev pub invariant-loop-number : goal.invariant-loop-number
invariant-loop-number l = Wakes (take l.number-index l.numbers) l.fn.waits.items l.fn.next.items l.waits.items l.next.items
