-- The least width that holds a number, where even zero takes one bit.
use Rattle.std.specs.Prelude.{ℕ, ◌<◌, ◌≤◌, ℤ}
use Rattle.bit_words.specs.declared.value.Kind.{Kind}
use Rattle.bit_words.specs.Values.{InRange}

-- some width from 1 on holds the number, and no smaller one does
pub record IsLeastWidth (kind : Kind) (number : ℤ) (width : ℕ) : Type 0 where
  pub positive : 0 < width
  pub holds : InRange kind width number
  pub least : (other : ℕ) → 0 < other → InRange kind other number → width ≤ other
