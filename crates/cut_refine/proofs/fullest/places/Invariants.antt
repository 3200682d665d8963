use Rattle.std.proofs.Common.{◌≡◌, ◌==◌, slice_index}
use Rattle.std.specs.List.{filter, range_with_len}
use Rattle.cut_refine.proofs.fullest.places.Given as goal

abbrev pub invariant-loop-sink : goal.invariant-loop-sink
invariant-loop-sink l = l.places.items ≡ filter (λ place. slice_index l.owners place == l.part) (range_with_len 0 l.sink)
