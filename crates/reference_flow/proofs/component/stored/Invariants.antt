use Rattle.std.proofs.Common.{◌≡◌, [], filter_map, take}
use Rattle.fir_types.specs.Memories.{element_in}
use Rattle.reference_flow.proofs.component.stored.Given as goal

abbrev pub invariant-loop-line : goal.invariant-loop-line
invariant-loop-line l = filter_map element_in (take l.line-index l.memory.lines) ≡ []
