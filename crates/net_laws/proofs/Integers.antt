-- The integers of fitted values.
use Rattle.std.proofs.Common.{◌≡◌, ℕ, ◌<◌, ◌≤◌, ◌^◌, min, ℤ, pos, ap, ◌∙◌, subst, arith}
use Rattle.std.proofs.lemmas.Grind.{common_steps}
use Rattle.bit_words.specs.declared.value.Kind.{Kind}
use Rattle.bit_words.specs.declared.value.Kind.TheVariants.{Unsigned, Signed}
use Rattle.bit_words.specs.Values.{integer, integer_of, bits_of, fit_of, InRange}
use Rattle.bit_words.proofs.Congruence.{fit_same, fit_in_range, bits_below}
use Rattle.prim_ops.specs.Values.{fitted}

least : (width : ℕ) → width ≤ 128 → min width 128 ≡ width
least width h = grind (arith, common_steps, h)

-- An integer that is in range stays what it is.
pub fitted_is : (kind : Kind) (width : ℕ) (n : ℤ) → width ≤ 128 → InRange kind width n → integer_of (fitted kind width n) ≡ n
fitted_is kind width n h r = ap (λ w. fit_of kind w n) (least width h) ∙ fit_same kind width n r

-- 0 is in every range.
pub zero_fits : (kind : Kind) (width : ℕ) → InRange kind width (pos 0)
zero_fits kind width = subst (InRange kind width) (zero_is kind width) (fit_in_range kind width (pos 0)) where
  zero_is : (kind : Kind) (width : ℕ) → fit_of kind width (pos 0) ≡ pos 0
  zero_is Unsigned width = grind (arith, common_steps)
  zero_is Signed width = let b : bits_of width (pos 0) < 2 ^ width = bits_below width (pos 0) in grind (arith, common_steps, b)

pub fitted_zero : (kind : Kind) (width : ℕ) → width ≤ 128 → integer_of (fitted kind width (pos 0)) ≡ pos 0
fitted_zero kind width h = fitted_is kind width (pos 0) h (zero_fits kind width)

-- A value of no bits is 0.
pub no_bits : (kind : Kind) (width bits : ℕ) → width ≡ 0 → bits < 2 ^ width → integer kind width bits ≡ pos 0
no_bits Unsigned width bits e b = grind (arith, common_steps, e, b)
no_bits Signed width bits e b = grind (arith, common_steps, e, b)
