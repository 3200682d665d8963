use Rattle.std.proofs.Common.{take}
use Rattle.cut_refine.specs.Standing.{Owns}
use Rattle.cut_refine.proofs.standing.own.Given as goal

abbrev pub invariant-loop-sink : goal.invariant-loop-sink
invariant-loop-sink l = Owns l.part (take l.sink-index l.sinks) l.fn.owners l.owners
