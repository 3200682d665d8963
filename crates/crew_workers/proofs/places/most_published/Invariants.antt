use Rattle.std.proofs.Common.{◌≤◌, ◌<◌, ◌^◌, ℕ, get_or}
use Rattle.flat_code.specs.Codes.{most_publications}
use Rattle.crew_workers.proofs.places.most_published.Given as goal

abbrev pub invariant-loop-k : goal.invariant-loop-k
invariant-loop-k l = record {
  greatest : (j : ℕ) (d : _) → j < l.k → most_publications (get_or l.codes j d) ≤ l.greatest;
  word : l.greatest < 2 ^ 64;
}
