use Rattle.std.proofs.Common.{◌≡◌, take}
use Rattle.std.specs.Prelude.{flat_map}
use Rattle.net_run.specs.Keeping.{zeros_of_ports}
use Rattle.net_run.proofs.beginning.first_captured.Given as goal

abbrev pub invariant-loop-memory : goal.invariant-loop-memory
invariant-loop-memory l = l.values.items ≡ flat_map (λ memory. zeros_of_ports l.net memory.ports) (take l.memory-index l.net.memories)
