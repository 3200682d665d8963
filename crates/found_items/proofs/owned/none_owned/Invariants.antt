use Rattle.std.proofs.Common.{◌≡◌, ℕ, [], length, get_or}
use Rattle.found_items.proofs.owned.none_owned.Given as goal

abbrev pub invariant-loop : goal.invariant-loop
invariant-loop l = record {
  counted : length l.own.items ≡ l.counter;
  none : (k : ℕ) → get_or l.own.items k [] ≡ [];
}
