-- Quotients and remainders by sign and magnitude.
use Rattle.std.proofs.Common.{◌≢◌, true, false, ◌+ℤ◌, ◌*ℤ◌, ◌≤ℤ◌, ◌<ℤ◌, int_div, int_rem, div-add-mod', mod-lt, ◌≡◌, ℕ, zero, suc, ◌/◌, ◌%◌, ◌<◌, Bool, not, ℤ, pos, negsuc, neg_ℤ, unsigned_abs, if◌then◌else◌, ◌==◌, refl, ap, sym, ◌∙◌, arith}
use Rattle.std.proofs.lemmas.Bool.{cond-false, ne_eqb, false≢true}
use Rattle.std.proofs.lemmas.Int.{ints, quot-rem, rem_below}
use Rattle.std.proofs.Math.Nat.{pos_of_ne-zero}
use mathlib.Core.Bool.{beq}
use Rattle.prim_ops.specs.Integers.{is_below, signed_by}
use Rattle.prim_ops.specs.Results.{quotient, remainder, floor_div}

some : (n : ℕ) → 0 < suc n
some n = omega arith

tested : (n : ℕ) (x y : ℤ) → y ≡ (if suc n == 0 then x else y)
tested n x y = sym (cond-false (suc n == 0) x y (ne_eqb (suc n) 0 (λ e. omega arith)))

quotient_by : (a b : ℤ) (size : ℕ) → (unsigned_abs b ≡ 0 → size ≡ 0) → (0 < unsigned_abs b → size ≡ unsigned_abs a / unsigned_abs b)
    → signed_by (not (beq (is_below a) (is_below b))) size ≡ quotient a b
quotient_by (pos a) (pos zero) size none other = ap pos (none refl)
quotient_by (pos a) (pos (suc b)) size none other = ap pos (other (some b)) ∙ tested b _ _
quotient_by (pos a) (negsuc b) size none other = ap (λ n. neg_ℤ (pos n)) (other (some b)) ∙ tested b _ _
quotient_by (negsuc a) (pos zero) size none other = ap (λ n. neg_ℤ (pos n)) (none refl)
quotient_by (negsuc a) (pos (suc b)) size none other = ap (λ n. neg_ℤ (pos n)) (other (some b)) ∙ tested b _ _
quotient_by (negsuc a) (negsuc b) size none other = ap pos (other (some b)) ∙ tested b _ _

remainder_by : (a b : ℤ) (size : ℕ) → (unsigned_abs b ≡ 0 → size ≡ 0) → (0 < unsigned_abs b → size ≡ unsigned_abs a % unsigned_abs b)
    → signed_by (is_below a) size ≡ remainder a b
remainder_by (pos a) (pos zero) size none other = ap pos (none refl)
remainder_by (pos a) (pos (suc b)) size none other = ap pos (other (some b)) ∙ tested b _ _
remainder_by (pos a) (negsuc b) size none other = ap pos (other (some b)) ∙ tested b _ _
remainder_by (negsuc a) (pos zero) size none other = ap (λ n. neg_ℤ (pos n)) (none refl)
remainder_by (negsuc a) (pos (suc b)) size none other = ap (λ n. neg_ℤ (pos n)) (other (some b)) ∙ tested b _ _
remainder_by (negsuc a) (negsuc b) size none other = ap (λ n. neg_ℤ (pos n)) (other (some b)) ∙ tested b _ _

pub quotient_is : (a b m n : ℤ) (s t : Bool) (p d size : ℕ) → m ≡ a → n ≡ b → s ≡ is_below m → t ≡ is_below n → p ≡ unsigned_abs m → d ≡ unsigned_abs n
    → (d ≡ 0 → size ≡ 0) → (0 < d → size ≡ p / d) → signed_by (not (beq s t)) size ≡ quotient a b
quotient_is a b m n s t p d size e f g h i j none other = rw (← e, ← f, g, h) (quotient_by m n size (rw j at none) (rw (i, j) at other))

pub remainder_is : (a b m n : ℤ) (s : Bool) (p d size : ℕ) → m ≡ a → n ≡ b → s ≡ is_below m → p ≡ unsigned_abs m → d ≡ unsigned_abs n
    → (d ≡ 0 → size ≡ 0) → (0 < d → size ≡ p % d) → signed_by s size ≡ remainder a b
remainder_is a b m n s p d size e f g i j none other = rw (← e, ← f, g) (remainder_by m n size (rw j at none) (rw (i, j) at other))

quotient_other : (a b : ℤ) → unsigned_abs b ≢ 0 → quotient a b ≡ int_div a b
quotient_other a b other = cond-false (unsigned_abs b == 0) (pos 0) (int_div a b) (ne_eqb (unsigned_abs b) 0 other)

remainder_other : (a b : ℤ) → unsigned_abs b ≢ 0 → remainder a b ≡ int_rem a b
remainder_other a b other = cond-false (unsigned_abs b == 0) (pos 0) (int_rem a b) (ne_eqb (unsigned_abs b) 0 other)

-- quotient and remainder make up the numerator
pub whole : (a b : ℤ) → unsigned_abs b ≢ 0 → quotient a b *ℤ b +ℤ remainder a b ≡ a
whole a b other = (λ j. quotient_other a b other j *ℤ b +ℤ remainder_other a b other j) ∙ quot-rem a b

pub small : (a b : ℤ) → unsigned_abs b ≢ 0 → unsigned_abs (remainder a b) < unsigned_abs b
small a b other = rw (remainder_other a b other) (rem_below a b (pos_of_ne-zero other))

not_negative : (t : Bool) (m n : ℕ) → is_below (if t then pos m else pos n) ≡ true → false ≡ true
not_negative true m n below = below
not_negative false m n below = below

pub sign : (a b : ℤ) → is_below (remainder a b) ≡ true → is_below a ≡ true
sign (pos a) b below = not_negative (unsigned_abs b == 0) 0 (a % unsigned_abs b) below
sign (negsuc a) b below = refl

not_above : (t : Bool) (n : ℕ) → (if t then pos 0 else neg_ℤ (pos n)) ≤ℤ pos 0
not_above true n = omega (arith, ints)
not_above false n = omega (arith, ints)

pub no_more : (a b : ℤ) → is_below a ≡ true → remainder a b ≤ℤ pos 0
no_more (pos a) b below = absurd (false≢true below)
no_more (negsuc a) b below = not_above (unsigned_abs b == 0) (suc a % unsigned_abs b)

-- rounded down
pub floor_least : (n : ℤ) (by : ℕ) → 0 < by → (floor_div n by *ℤ pos by) ≤ℤ n
floor_least (pos n) by positive = let split = div-add-mod' n by in omega (arith, ints)
floor_least (negsuc n) by positive = let split = div-add-mod' n by in let below = mod-lt n positive in omega (arith, ints)

pub floor_greatest : (n : ℤ) (by : ℕ) → 0 < by → n <ℤ (floor_div n by *ℤ pos by +ℤ pos by)
floor_greatest (pos n) by positive = let split = div-add-mod' n by in let below = mod-lt n positive in omega (arith, ints)
floor_greatest (negsuc n) by positive = let split = div-add-mod' n by in let below = mod-lt n positive in omega (arith, ints)
