use Rattle.std.proofs.Common.{◌≡◌, [], map, take}
use Rattle.bit_words.specs.Values.{integer_of}
use Rattle.fir_meaning.specs.Values.{beside, lone}
use Rattle.fir_meaning.specs.MemoryPorts.{shown}
use Rattle.plain_values.specs.Contents.{leaves_of_seen, port_of_held}
use Rattle.plain_values.specs.Writing.{over}
use Rattle.plain_values.proofs.writing.written.Given as goal

abbrev pub invariant-loop-at : goal.invariant-loop-at
invariant-loop-at l = map integer_of l.after ≡ map (over (shown (leaves_of_seen l.memory) (port_of_held l.port))) (beside (lone []) (take l.at l.memory.leaves.now) l.before)
