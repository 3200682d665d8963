-- Numbers that no leaf holds.
use Rattle.std.proofs.Common.{ℕ, zero, suc, ◌^◌, ◌≤◌, ◌<◌, Bool, true, false, arith}
use Rattle.std.specs.Prelude.{pos, neg_ℤ, if◌then◌else◌}
use Rattle.std.proofs.lemmas.Int.{ints}
use Rattle.std.proofs.Math.Pow.{pow_mono}
use Rattle.std.proofs.lemmas.Nat.{pow_below}
use Rattle.bit_words.specs.declared.value.Kind.{Kind}
use Rattle.bit_words.specs.declared.value.Kind.TheVariants.{Unsigned, Signed}
use Rattle.bit_words.specs.Values.{InRange}
use Rattle.bit_words.specs.declared.number.Number.{Number}
use Rattle.bit_words.specs.Numbers.{integer_of_number}

-- no leaf holds a number of a magnitude over 2^128 - 1
pub over_never : (kind : Kind) (width : ℕ) (number : Number) → width ≤ 128 → 2 ^ 128 ≤ number.magnitude → ¬ (InRange kind width (integer_of_number number))
over_never kind width number narrow over = by kind width number.negative narrow
  where
    by : (kind : Kind) (width : ℕ) (negative : Bool) → width ≤ 128 → ¬ (InRange kind width (if negative then neg_ℤ (pos number.magnitude) else pos number.magnitude))
    by kind zero true n h = omega (arith, ints, over, h)
    by kind zero false n h = omega (arith, ints, over, h)
    by Unsigned (suc w) true n h = omega (arith, ints, over, h.0)
    by Unsigned (suc w) false n h = let p : 2 ^ suc w ≤ 2 ^ 128 = pow_mono n in omega (arith, ints, over, p, h.1)
    by Signed (suc w) true n h = let p : 2 ^ w < 2 ^ 128 = pow_below w 128 (omega (arith, n)) in omega (arith, ints, over, p, h.0)
    by Signed (suc w) false n h = let p : 2 ^ w < 2 ^ 128 = pow_below w 128 (omega (arith, n)) in omega (arith, ints, over, p, h.1)
