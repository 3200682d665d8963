use Rattle.std.proofs.Common.{◌≡◌, take, map}
use Rattle.cone_cutter.proofs.sinks.leaves_of.Given as goal

abbrev pub invariant-loop-register : goal.invariant-loop-register
invariant-loop-register l = l.numbers.items ≡ map (λ register. register.leaf) (take l.register-index l.register-items)
