use Rattle.std.proofs.Common.{◌≡◌, take, map, slice_get}
use Rattle.net_run.specs.Keeping.{zero_of}
use Rattle.net_run.proofs.beginning.first_registers.Given as goal

abbrev pub invariant-loop-register : goal.invariant-loop-register
invariant-loop-register l = l.values.items ≡ map (λ register. zero_of (slice_get l.net.leaves register.leaf)) (take l.register-index l.net.registers)
