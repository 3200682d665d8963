use Rattle.std.proofs.Common.{◌≡◌, ◌≤◌, ◌<◌, ℕ, length, vec_capacity, vec_items, get_or}
use Rattle.flat_code.specs.Codes.{most_publications, most_outputs}
use Rattle.crew_workers.proofs.turns.all_effects.Given as goal

abbrev pub invariant-loop-k : goal.invariant-loop-k
invariant-loop-k l = record {
  many : length (vec_items l.effects) ≡ l.k;
  publications : (j : ℕ) (d : _) (e : _) → j < l.k → most_publications (get_or l.codes j d) ≤ vec_capacity (get_or (vec_items l.effects) j e).publications;
  outputs : (j : ℕ) (d : _) (e : _) → j < l.k → most_outputs (get_or l.codes j d) ≤ vec_capacity (get_or (vec_items l.effects) j e).outputs;
}
