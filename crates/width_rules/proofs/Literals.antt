-- The least width that holds a literal.
use Rattle.std.proofs.Common.{◌≡◌, ℕ, zero, suc, ◌+◌, ◌≤◌, ◌<◌, ◌^◌, min, Bool, true, false, ◌&&◌, T, refl, sym, ap, ◌∙◌, arith, ℤ, pos, negsuc, neg_ℤ, int_le, int_lt, if◌then◌else◌, ◌⊎◌, inl, inr, Option, Some, None, IfSome, IfNone}
use Rattle.std.specs.Prelude.{nat_lt}
use Rattle.std.specs.Option.{unwrap_or}
use Rattle.std.proofs.lemmas.Bool.{ltb-true, ltb-false}
use Rattle.std.proofs.lemmas.Grind.{common_steps}
use Rattle.bit_words.specs.declared.value.Kind.{Kind}
use Rattle.bit_words.specs.declared.value.Kind.TheVariants.{Unsigned, Signed}
use Rattle.bit_words.specs.Values.{InRange}
use Rattle.bit_words.specs.LeastWidths.{IsLeastWidth}
use Rattle.fir_tree.specs.Kinds.{holds}
use Rattle.width_rules.specs.Sources.{least_holding}

both_true : (a b : Bool) → T a → T b → (a && b) ≡ true
both_true true true h k = refl
both_true true false h k = elim k [ ]
both_true false b h k = elim h [ ]

first_true : (a b : Bool) → (a && b) ≡ true → T a
first_true true b h = tt
first_true false b h = absurd (grind (arith, common_steps))

second_true : (a b : Bool) → (a && b) ≡ true → T b
second_true true true h = tt
second_true true false h = absurd (grind (arith, common_steps))
second_true false b h = absurd (grind (arith, common_steps))

only_zero : (n : ℤ) → T (int_le n (pos 0)) → T (int_le (pos 0) n) → n ≡ pos 0
only_zero (pos k) h g = ap pos (grind (arith, common_steps))
only_zero (negsuc k) h g = elim g [ ]

-- the question and the range

pub holds_in : (kind : Kind) (width : ℕ) (n : ℤ) → holds kind width n ≡ true → InRange kind width n
holds_in kind zero n h = only_zero n (first_true (int_le n (pos 0)) (int_le (pos 0) n) h) (second_true (int_le n (pos 0)) (int_le (pos 0) n) h)
holds_in Unsigned (suc w) n h =
    (record { le = first_true (int_le (pos 0) n) (int_lt n (pos (2 ^ suc w))) h }, record { lt = second_true (int_le (pos 0) n) (int_lt n (pos (2 ^ suc w))) h })
holds_in Signed (suc w) n h =
    (record { le = first_true (int_le (neg_ℤ (pos (2 ^ w))) n) (int_lt n (pos (2 ^ w))) h }, record { lt = second_true (int_le (neg_ℤ (pos (2 ^ w))) n) (int_lt n (pos (2 ^ w))) h })

pub in_holds : (kind : Kind) (width : ℕ) (n : ℤ) → InRange kind width n → holds kind width n ≡ true
in_holds kind zero n h = ap (λ m. int_le m (pos 0) && int_le (pos 0) m) h
in_holds Unsigned (suc w) n h = both_true (int_le (pos 0) n) (int_lt n (pos (2 ^ suc w))) h.0.le h.1.lt
in_holds Signed (suc w) n h = both_true (int_le (neg_ℤ (pos (2 ^ w))) n) (int_lt n (pos (2 ^ w))) h.0.le h.1.lt

not_holds : (kind : Kind) (width : ℕ) (n : ℤ) → ¬ (InRange kind width n) → holds kind width n ≡ false
not_holds kind width n misses = by (holds kind width n) refl
  where
    by : (b : Bool) → holds kind width n ≡ b → b ≡ false
    by true e = absurd (misses (holds_in kind width n e))
    by false e = refl

-- the least width from one on, at most so much above it
least_from : (kind : Kind) (n : ℤ) (from more width : ℕ) → from ≤ width → width ≤ from + more → (width < from + more → holds kind width n ≡ true)
    → ((other : ℕ) → from ≤ other → other < width → holds kind other n ≡ false) → least_holding kind n from more ≡ width
least_from kind n from zero width le most fits fails = omega (arith, le, most)
least_from kind n from (suc more) width le most fits fails = by (holds kind from n) refl
    (λ lt. least_from kind n (suc from) more width (omega (arith, lt)) (omega (arith, most)) (λ l. fits (omega (arith, l))) (λ other h. fails other (omega (arith, h))))
  where
    same : true ≡ false → ⊥
    same x = grind (arith, common_steps, x)

    above : (c : Bool) → nat_lt from width ≡ c → (from < width) ⊎ (from ≡ width)
    above true lt = inl (ltb-true from width lt)
    above false ge = inr (omega (arith, le, ltb-false from width ge))

    fits_here : holds kind from n ≡ true → (from < width) ⊎ (from ≡ width) → from ≡ width
    fits_here e (inl lt) = absurd (same (sym e ∙ fails from (omega arith) lt))
    fits_here e (inr is) = is

    fails_here : holds kind from n ≡ false → (from < width) ⊎ (from ≡ width) → from < width
    fails_here e (inl lt) = lt
    fails_here e (inr is) = absurd (same (sym (fits (omega (arith, is))) ∙ ap (λ w. holds kind w n) (sym is) ∙ e))

    by : (b : Bool) → holds kind from n ≡ b → (from < width → least_holding kind n (suc from) more ≡ width) → (if b then from else least_holding kind n (suc from) more) ≡ width
    by true e rest = fits_here e (above (nat_lt from width) refl)
    by false e rest = rest (fails_here e (above (nat_lt from width) refl))

pub least_of_some : (kind : Kind) (n : ℤ) (width : ℕ) → IsLeastWidth kind n width → min width 129 ≡ least_holding kind n 1 128
least_of_some kind n width h = sym (least_from kind n 1 128 (min width 129) (omega (arith, h.positive)) (omega arith) fits fails)
  where
    fits : min width 129 < 1 + 128 → holds kind (min width 129) n ≡ true
    fits lt = let is : width ≡ min width 129 = omega (arith, lt) in ap (λ w. holds kind w n) (sym is) ∙ in_holds kind width n h.holds

    fails : (other : ℕ) → 1 ≤ other → other < min width 129 → holds kind other n ≡ false
    fails other le lt = not_holds kind other n (λ r. absurd (omega (arith, h.least other (omega (arith, le)) r, lt)))

pub least_of_none : (kind : Kind) (n : ℤ) → ((width : ℕ) → ¬ (InRange kind width n)) → 129 ≡ least_holding kind n 1 128
least_of_none kind n none = sym (least_from kind n 1 128 129 (omega arith) (omega arith) (λ lt. absurd (omega (arith, lt))) (λ other le lt. not_holds kind other n (none other)))

-- what is answered for a literal without a width
pub least_told : (kind : Kind) (n : ℤ) (found : Option ℕ) (answer : ℕ) → IfSome found (λ width. IsLeastWidth kind n width) → IfNone found ((width : ℕ) → ¬ (InRange kind width n))
    → answer ≡ min (unwrap_or found 129) 129 → answer ≡ least_holding kind n 1 128
least_told kind n (Some width) answer some none is = is ∙ least_of_some kind n width some
least_told kind n None answer some none is = is ∙ least_of_none kind n none
