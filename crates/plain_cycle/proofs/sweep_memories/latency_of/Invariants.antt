use Rattle.std.proofs.Common.{◌≡◌, [], filter_map, take}
use Rattle.fir_types.specs.Memories.{read_latency_in}
use Rattle.plain_cycle.proofs.sweep_memories.latency_of.Given as goal

abbrev pub invariant-loop-line : goal.invariant-loop-line
invariant-loop-line l = filter_map read_latency_in (take l.line-index l.lines) ≡ []
