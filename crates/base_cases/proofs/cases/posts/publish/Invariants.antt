use Rattle.std.proofs.Common.{◌+◌, ◌*◌}
use Rattle.register_table.specs.Shown.{Stands}
use Rattle.base_cases.proofs.cases.posts.publish.Given as goal

abbrev pub invariant-loop-publication : goal.invariant-loop-publication
invariant-loop-publication g l = Stands l.table l.post l.worker (l.worker + 1) (2 * l.cycle + 1) (2 * l.cycle + 1) l.publication-index
