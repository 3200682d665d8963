use Rattle.std.proofs.Common.{◌+◌, ◌-◌, ◌*◌, min, length}
use Rattle.width_solver.specs.Rounds.{total, Stands}
use Rattle.width_solver.proofs.solving.least_widths.Given as goal

abbrev pub invariant-rounds : goal.invariant-rounds
invariant-rounds l = Stands l.rules l.count l.pending.items l.widths.items l.waits.items

abbrev pub decreases-rounds : goal.decreases-rounds
decreases-rounds l = 2 * (129 * l.count - total l.widths.items) + min 1 (length l.pending.items)
