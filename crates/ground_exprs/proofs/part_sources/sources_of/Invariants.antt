use Rattle.std.proofs.Common.{◌≡◌, ◌+◌}
use Rattle.ground_exprs.specs.Sources.{AreOfLeaves}
use Rattle.ground_exprs.proofs.part_sources.sources_of.Given as goal

abbrev pub invariant-loop-leaf : goal.invariant-loop-leaf
invariant-loop-leaf l = record {
  number : l.number ≡ l.part.first + l.leaf-index;
  so_far : AreOfLeaves l.typ l.part l.leaf-index l.sources;
}
