use Rattle.std.proofs.Common.{◌≡◌, ℕ, ◌≤◌, List, length, take}
use Rattle.std.specs.Str.{bytes_eq}
use Rattle.std.specs.BTreeMap.{get_by}
use Rattle.std.specs.Cmp.Lexicographic.{slice_cmp}
use Rattle.std.specs.Ordering.{nat_cmp}
use Rattle.found_items.proofs.Texts.{first_of}
use Rattle.found_items.proofs.naming.numbers_of.Given as goal

abbrev pub invariant-loop-number : goal.invariant-loop-number
invariant-loop-number l = record {
  numbers : (text : List ℕ) → get_by (λ k. slice_cmp nat_cmp text k.now) l.numbers ≡ first_of 0 text (take l.number l.names);
  within : l.number ≤ length l.names;
}
