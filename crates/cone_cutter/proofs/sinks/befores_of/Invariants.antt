use Rattle.std.proofs.Common.{◌≡◌, take, map}
use Rattle.cone_cutter.proofs.sinks.befores_of.Given as goal

abbrev pub invariant-loop-memory : goal.invariant-loop-memory
invariant-loop-memory l = l.numbers.items ≡ map (λ memory. memory.before) (take l.memory-index l.memory-items)
