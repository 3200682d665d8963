use Rattle.std.proofs.Common.{◌≡◌, [], filter_map, take}
use Rattle.fir_types.specs.Memories.{under_in}
use Rattle.plain_cycle.proofs.edge_memories.under_of.Given as goal

abbrev pub invariant-loop-line : goal.invariant-loop-line
invariant-loop-line l = filter_map under_in (take l.line-index l.lines) ≡ []
