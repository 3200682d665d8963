-- The digits of a number, the lowest first, are its digits turned round.
use Rattle.std.proofs.Common.{◌≡◌, ℕ, zero, suc, ◌+◌, ◌*◌, ◌/◌, ◌%◌, ◌^◌, ◌<◌, ◌≤◌, Bool, true, false, ltb, List, [], ◌∷◌, ◌++◌, reverse, refl, sym, ap, ◌∙◌, if◌then◌else◌, append_assoc, arith}
use Rattle.std.proofs.Math.Nat.{mul-le-mul_left}
use Rattle.std.proofs.lemmas.Grind.{common_steps}
use Rattle.print_stop.specs.Printed.{digit, least_digits}

-- what is left of a number, whose lowest digits were taken
pub record IsLeft (base number rest : ℕ) (low : List ℕ) : Type 0 where
  pub more : ℕ
  pub fits : rest < 2 ^ (suc more)
  pub digits : least_digits base 128 number ≡ least_digits base (suc more) rest ++ reverse low

no_more : (xs : List ℕ) → xs ++ [] ≡ xs
no_more [] = refl
no_more (x ∷ xs) = ap (λ (ys : List ℕ). x ∷ ys) (no_more xs)

reverse_push : (xs : List ℕ) (d : ℕ) → reverse (xs ++ d ∷ []) ≡ d ∷ reverse xs
reverse_push xs d = grind (arith, common_steps)

pub whole_left : (base number : ℕ) → number < 2 ^ 128 → IsLeft base number number []
whole_left base number small = record { more = 127; fits = small; digits = sym (no_more (least_digits base 128 number)) }

one_digit : (base most n : ℕ) → n < base → least_digits base (suc most) n ≡ digit n ∷ []
unfolding least_digits
one_digit base most n small = let test : ltb n base ≡ true = grind arith in rw test refl

more_digits : (base most n : ℕ) → base ≤ n → least_digits base (suc most) n ≡ least_digits base most (n / base) ++ digit (n % base) ∷ []
unfolding least_digits
more_digits base most n large = let test : ltb n base ≡ false = grind arith in rw test refl

half : (base n bound : ℕ) → 2 ≤ base → n < 2 * bound → n / base < bound
half base n bound two small = let twice = mul-le-mul_left (n / base) two in omega (arith, twice)

pub next_digit : (base number rest d : ℕ) (low longer : List ℕ) → 2 ≤ base → base ≤ rest → IsLeft base number rest low → longer ≡ low ++ d ∷ [] → d ≡ digit (rest % base) → IsLeft base number (rest / base) longer
next_digit base number rest d low longer two large left grown is = by left.more left.fits left.digits
  where
    by : (more : ℕ) → rest < 2 ^ (suc more) → least_digits base 128 number ≡ least_digits base (suc more) rest ++ reverse low → IsLeft base number (rest / base) longer
    by zero fits digits = absurd (omega arith)
    by (suc more) fits digits = record {
      more = more;
      fits = half base rest (2 ^ (suc more)) two (grind arith);
      digits = digits ∙ ap (λ (xs : List ℕ). xs ++ reverse low) (more_digits base (suc more) rest large) ∙ append_assoc (least_digits base (suc more) (rest / base)) (digit (rest % base) ∷ []) (reverse low)
          ∙ ap (λ (xs : List ℕ). least_digits base (suc more) (rest / base) ++ xs) (ap (λ (n : ℕ). n ∷ reverse low) (sym is) ∙ sym (reverse_push low d) ∙ ap reverse (sym grown));
    }

pub last_digit : (base number rest d : ℕ) (low longer : List ℕ) → rest < base → IsLeft base number rest low → longer ≡ low ++ d ∷ [] → d ≡ digit rest → reverse longer ≡ least_digits base 128 number
last_digit base number rest d low longer small left grown is =
    ap reverse grown ∙ reverse_push low d ∙ ap (λ (n : ℕ). n ∷ reverse low) is ∙ sym (left.digits ∙ ap (λ (xs : List ℕ). xs ++ reverse low) (one_digit base left.more rest small))
