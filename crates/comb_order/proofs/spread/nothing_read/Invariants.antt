use Rattle.std.proofs.Common.{◌≡◌, ℕ, [], length}
use Rattle.comb_order.specs.Spreads.{row_at}
use Rattle.comb_order.proofs.spread.nothing_read.Given as goal

abbrev pub invariant-loop : goal.invariant-loop
invariant-loop l = record {
  count : length l.rows.items ≡ l.counter;
  empty : (x : ℕ) → row_at l.rows.items x ≡ [];
}
