use Rattle.std.proofs.Common.{◌≡◌, map, slice_index, take}
use Rattle.ground_net.specs.Renumbering.{with_numbers}
use Rattle.ground_net.proofs.renumbering.+renumber.Given as goal

abbrev pub invariant-renumber_all-loop-ground : goal.invariant-renumber_all-loop-ground
invariant-renumber_all-loop-ground l = l.them ≡ map (with_numbers (slice_index l.numbers)) (take l.ground-index l.grounds)
