use Rattle.std.proofs.Common.{◌≡◌, slice_get}
use Rattle.std.specs.Prelude.{filter_map, option_map}
use Rattle.std.specs.List.{range_with_len}
use Rattle.ground_net.proofs.ports.names_of.Given as goal

abbrev pub invariant-loop-number : goal.invariant-loop-number
invariant-loop-number l = l.names ≡ filter_map (λ x. option_map (λ leaf. leaf.name) (slice_get l.net.leaves x)) (range_with_len 0 l.number)
