use Rattle.std.proofs.Common.{◌≤◌}
use Rattle.part_compile.specs.SlotBounds.{greatest, sinks_nodes}
use Rattle.part_compile.proofs.node_count.largest_sink.Given as goal

abbrev pub invariant-loop-number : goal.invariant-loop-number
invariant-loop-number l = l.most ≤ greatest (sinks_nodes l.net l.watch l.part)
