use Rattle.std.proofs.Common.{◌≡◌, ◌++◌, map}
use Rattle.std.specs.List.{flat_map, range_with_len}
use Rattle.ground_net.specs.Cones.{A_watched, sinks_at}
use Rattle.cone_cutter.specs.Rows.{sink_of}
use Rattle.cone_cutter.proofs.sinks.sinks_of.Given as goal

abbrev pub invariant-loop-leaf : goal.invariant-loop-leaf
invariant-loop-leaf l = map sink_of l.found.items ≡ map (λ x. A_watched x) l.watch ++ flat_map (sinks_at l.net) (range_with_len 0 l.leaf)
