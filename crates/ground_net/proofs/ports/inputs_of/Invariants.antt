use Rattle.std.proofs.Common.{◌≡◌, slice_get}
use Rattle.std.specs.Prelude.{filter_map}
use Rattle.std.specs.List.{range_with_len}
use Rattle.ground_net.specs.Watching.{is_given, told_where}
use Rattle.ground_net.proofs.ports.inputs_of.Given as goal

abbrev pub invariant-loop-number : goal.invariant-loop-number
invariant-loop-number l = l.leaves ≡ filter_map (λ x. told_where is_given x (slice_get l.net.leaves x)) (range_with_len 0 l.number)
