use Rattle.std.proofs.Common.{◌≡◌, ℕ, ◌+◌, List, ◌++◌, map, length}
use Rattle.std.specs.Int.Digits.{digits_of}
use Rattle.vcd_write.proofs.pushing.push_id.Given as goal

abbrev pub invariant-loop-rest : goal.invariant-loop-rest
invariant-loop-rest l = record {
  low : List ℕ;
  place : l.place ≡ length l.initial.text.items;
  text : l.text.items ≡ l.initial.text.items ++ map (λ d. 33 + d) low;
  digits : digits_of 94 l.number ≡ digits_of 94 l.rest ++ low;
}

abbrev pub decreases-loop-rest : goal.decreases-loop-rest
decreases-loop-rest l = l.rest
