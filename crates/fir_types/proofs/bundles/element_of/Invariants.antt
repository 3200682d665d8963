use Rattle.std.proofs.Common.{◌≡◌, [], filter_map, take}
use Rattle.fir_types.specs.Memories.{element_in}
use Rattle.fir_types.proofs.bundles.element_of.Given as goal

abbrev pub invariant-loop-line : goal.invariant-loop-line
invariant-loop-line l = filter_map element_in (take l.line-index l.lines) ≡ []
