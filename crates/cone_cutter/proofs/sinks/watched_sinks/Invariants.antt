use Rattle.std.proofs.Common.{◌≡◌, take, map}
use Rattle.ground_net.specs.Cones.{A_watched}
use Rattle.cone_cutter.specs.Rows.{sink_of}
use Rattle.cone_cutter.proofs.sinks.watched_sinks.Given as goal

abbrev pub invariant-loop-leaf : goal.invariant-loop-leaf
invariant-loop-leaf l = map sink_of l.found.items ≡ map (λ x. A_watched x) (take l.leaf-index l.watch)
