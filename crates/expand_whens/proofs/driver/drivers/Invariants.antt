use Rattle.std.proofs.Common.{◌≡◌, ℕ, [], false, length, ◌<◌}
use Rattle.expand_whens.specs.Walking.{ways_at, is_covered}
use Rattle.expand_whens.proofs.driver.drivers.Given as goal

abbrev pub invariant-loop : goal.invariant-loop
invariant-loop l = record {
  ways : length l.ways.items ≡ l.index;
  covered : length l.covered.items ≡ l.index;
  empty : (x : ℕ) → ways_at l.ways.items x ≡ [];
  open_ones : (x : ℕ) → x < l.index → is_covered l.covered.items x ≡ false;
}
