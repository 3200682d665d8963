use Rattle.std.proofs.Common.{take, ◌≡◌}
use Rattle.std.specs.List.{flat_map}
use Rattle.fir_names.specs.Finds.{edge_in}
use Rattle.fir_names.proofs.gather.edges_of.Given as goal

abbrev pub invariant-loop-target : goal.invariant-loop-target
invariant-loop-target l = l.edges.items ≡ flat_map (edge_in l.known.entries) (take l.target-index l.instances)
