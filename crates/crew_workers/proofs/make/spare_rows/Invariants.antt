use Rattle.std.proofs.Common.{◌≡◌, ◌≤◌, ◌<◌, ℕ, vec_len, vec_capacity, vec_items, get_or}
use Rattle.crew_workers.proofs.make.spare_rows.Given as goal

abbrev pub invariant-loop : goal.invariant-loop
invariant-loop l = record {
  many : vec_len l.rows ≡ l.counter;
  room : (k : ℕ) (d : _) → k < l.counter → l.room ≤ vec_capacity (get_or (vec_items l.rows) k d);
}
