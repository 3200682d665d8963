use Rattle.std.proofs.Common.{◌≤◌, ℕ, length}
use Rattle.crew_workers.specs.Places.{Below}
use Rattle.crew_workers.proofs.places.width_of.Given as goal

abbrev pub invariant-loop-k : goal.invariant-loop-k
invariant-loop-k l = record {
  below : Below l.codes l.k l.width;
  least : (n : ℕ) → Below l.codes (length l.codes) n → l.width ≤ n;
}
