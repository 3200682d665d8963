use Rattle.std.proofs.Common.{◌≡◌, ◌+◌, length}
use Rattle.ground_statements.specs.Targets.{set_leaves}
use Rattle.ground_statements.proofs.sides.set_all.Given as goal

abbrev pub invariant-loop-fit : goal.invariant-loop-fit
invariant-loop-fit l = record {
  number : l.number ≡ l.part.first + length l.yielded;
  made : l.made ≡ set_leaves l.settable l.part.picks l.part.first l.yielded;
}
