use Rattle.std.proofs.Common.{◌≡◌, Some, slice_get}
use Rattle.ground_net.specs.declared.net.NetMemory.{NetMemory}
use Rattle.part_compile.specs.PartRows.{OwnsSome}
use Rattle.part_compile.proofs.spans.own_memory.Given as goal

abbrev pub invariant-loop-number : goal.invariant-loop-number
invariant-loop-number l = (it : NetMemory) → slice_get l.net.memories l.memory ≡ Some it → OwnsSome l.net l.memory it l.number l.fn.owned l.owned
