-- What stands for a number.
use Rattle.std.proofs.Common.{◌≡◌, ℕ, zero, suc, ◌^◌, ◌≤◌, ◌<◌, Bool, true, false, Some, Option, subst, arith}
use Rattle.std.specs.Prelude.{IsTrue, None, pos, neg_ℤ, if◌then◌else◌}
use Rattle.std.proofs.lemmas.Int.{ints}
use Rattle.std.proofs.Math.Pow.{pow_mono}
use Rattle.std.proofs.lemmas.Nat.{pow_below}
use Rattle.bit_words.specs.declared.value.Kind.{Kind}
use Rattle.bit_words.specs.declared.value.Kind.TheVariants.{Unsigned, Signed}
use Rattle.bit_words.specs.Values.{InRange}
use Rattle.bit_words.specs.declared.number.Number.{Number}
use Rattle.bit_words.specs.Numbers.{Holds, integer_of_number}
use Rattle.stimulus.specs.Reading.{Stands}

pub holds_some : (held : Option ℕ) (v n : ℕ) → held ≡ Some v → Holds held n → v ≡ n
holds_some held v n e h = subst (λ o. Holds o n) e h

pub holds_none : (held : Option ℕ) (n : ℕ) → held ≡ None → Holds held n → 2 ^ 128 ≤ n
holds_none held n e h = subst (λ o. Holds o n) e h

pub stands_some : (held : Option Number) (v n : Number) → held ≡ Some v → Stands held n → v ≡ n
stands_some held v n e h = subst (λ o. Stands o n) e h

pub stands_none : (held : Option Number) (n : Number) → held ≡ None → Stands held n → 2 ^ 128 ≤ n.magnitude
stands_none held n e h = subst (λ o. Stands o n) e h

pub refused : (b : Bool) → IsTrue b → b ≡ false → ⊥
refused b h e = cc

-- no leaf holds a number of a magnitude over 2^128 - 1
pub over_never : (kind : Kind) (width : ℕ) (number : Number) → width ≤ 128 → 2 ^ 128 ≤ number.magnitude → ¬ (InRange kind width (integer_of_number number))
over_never kind width number narrow over = by kind width number.negative narrow
  where
    by : (kind : Kind) (width : ℕ) (negative : Bool) → width ≤ 128 → ¬ (InRange kind width (if negative then neg_ℤ (pos number.magnitude) else pos number.magnitude))
    by kind zero true n h = omega (arith, ints, over, h)
    by kind zero false n h = omega (arith, ints, over, h)
    by Unsigned (suc w) true n h = omega (arith, ints, over, h.0)
    by Unsigned (suc w) false n h = let p : 2 ^ suc w ≤ 2 ^ 128 = pow_mono n in omega (arith, ints, over, p, h.1)
    by Signed (suc w) true n h = let p : 2 ^ w < 2 ^ 128 = pow_below w 128 (omega (arith, n)) in omega (arith, ints, over, p, h.0)
    by Signed (suc w) false n h = let p : 2 ^ w < 2 ^ 128 = pow_below w 128 (omega (arith, n)) in omega (arith, ints, over, p, h.1)
