use Rattle.std.proofs.Common.{◌≤◌, ◌<◌, ℕ, get_or}
use Rattle.flat_code.specs.Codes.{frame_length}
use Rattle.crew_workers.proofs.places.longest_frame.Given as goal

abbrev pub invariant-loop-k : goal.invariant-loop-k
invariant-loop-k l = record {
  longest : (j : ℕ) (d : _) → j < l.k → frame_length (get_or l.codes j d) ≤ l.longest;
}
