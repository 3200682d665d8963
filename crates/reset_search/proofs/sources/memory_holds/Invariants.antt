use Rattle.std.proofs.Common.{◌≡◌, drop}
use Rattle.reset_search.specs.Layers.{memory_holds}
use Rattle.reset_search.proofs.sources.memory_holds.Given as goal

abbrev pub invariant-loop-line : goal.invariant-loop-line
invariant-loop-line l = memory_holds l.lines ≡ memory_holds (drop l.line-index l.lines)
