use Rattle.std.proofs.Common.{◌≡◌, take, map}
use Rattle.part_compile.proofs.words.register_leaves.Given as goal

abbrev pub invariant-loop-register : goal.invariant-loop-register
invariant-loop-register l = l.leaves ≡ map (λ register. register.leaf) (take l.register-index l.net.registers)
