use Rattle.std.proofs.Common.{◌≡◌, ◌++◌, take, map}
use Rattle.ground_net.specs.Cones.{A_register}
use Rattle.cone_cutter.specs.Rows.{sink_of}
use Rattle.cone_cutter.proofs.sinks.push_registers.Given as goal

abbrev pub invariant-loop-place : goal.invariant-loop-place
invariant-loop-place l = map sink_of l.found.items ≡ map sink_of l.fn.found.items ++ map (λ k. A_register k) (take l.place-index l.places)
