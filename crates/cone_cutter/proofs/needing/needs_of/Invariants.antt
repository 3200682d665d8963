use Rattle.std.proofs.Common.{take, map}
use Rattle.cone_cutter.specs.Rows.{TellsNeeds, sink_of}
use Rattle.cone_cutter.proofs.needing.needs_of.Given as goal

abbrev pub invariant-loop-sink : goal.invariant-loop-sink
invariant-loop-sink l = TellsNeeds l.net (map sink_of (take l.sink-index l.sinks)) l.fn.spread l.spread l.rows.items
