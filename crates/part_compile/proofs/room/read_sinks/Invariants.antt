use Rattle.part_compile.specs.Counts.{ReadsMore}
use Rattle.part_compile.specs.Rooms.{read_by_sinks}
use Rattle.part_compile.proofs.room.read_sinks.Given as goal

abbrev pub invariant-loop-number : goal.invariant-loop-number
invariant-loop-number l = ReadsMore (read_by_sinks l.net l.watch l.part) l.fn.live l.live
