use Rattle.std.proofs.Common.{◌≡◌, ℕ, ◌-◌, List, length, drop}
use Rattle.std.specs.List.{position_from}
use Rattle.std.specs.Str.{bytes_eq}
use Rattle.std.specs.BTreeMap.{get_by}
use Rattle.std.specs.Cmp.Lexicographic.{slice_cmp}
use Rattle.std.specs.Ordering.{nat_cmp}
use Rattle.circuit_texts.specs.NetNames.{is_named}
use Rattle.circuit_texts.proofs.naming.first_numbers.Given as goal

abbrev pub invariant-loop-turn : goal.invariant-loop-turn
invariant-loop-turn l = (name : List ℕ) → get_by (λ k. slice_cmp nat_cmp name k.now) l.firsts ≡ position_from (is_named name) (length l.leaves - l.turn) (drop (length l.leaves - l.turn) l.leaves)
