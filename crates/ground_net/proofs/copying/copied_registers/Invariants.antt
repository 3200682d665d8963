use Rattle.std.proofs.Common.{◌≡◌, take}
use Rattle.ground_net.proofs.copying.copied_registers.Given as goal

abbrev pub invariant-loop-register : goal.invariant-loop-register
invariant-loop-register l = l.copies ≡ take l.register-index l.registers
