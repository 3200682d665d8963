use Rattle.std.proofs.Common.{◌+◌, ◌*◌}
use Rattle.register_table.specs.Shown.{Stands}
use Rattle.base_cases.proofs.cases.posts.drive.Given as goal

abbrev pub invariant-loop-cycle : goal.invariant-loop-cycle
invariant-loop-cycle g l = Stands l.table l.post l.worker (l.worker + 1) (2 * l.cycle) (2 * l.cycle) 0
