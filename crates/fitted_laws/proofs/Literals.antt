-- A literal has one width by the rules and by its meaning.
use Rattle.std.proofs.Common.{◌≡◌, ℕ, zero, suc, ◌+◌, ◌^◌, ◌<◌, ◌≤◌, Bool, true, false, ◌&&◌, Option, Some, None, ℤ, pos, negsuc, neg_ℤ, refl, sym, ap, ◌∙◌, arith, if◌then◌else◌}
use Rattle.std.specs.Prelude.{nat_le, nat_lt, int_le, int_lt}
use Rattle.std.proofs.lemmas.Bool.{le-leb, leb-true, leb-false, ltb-true, ltb-false, lt-leb}
use Rattle.bit_words.specs.declared.value.Kind.{Kind}
use Rattle.bit_words.specs.declared.value.Kind.TheVariants.{Unsigned, Signed}
use Rattle.fir_types.specs.Bundles.{least_reaching}
use Rattle.fir_tree.specs.Kinds.{holds}
use Rattle.type_check.specs.Expressions.{fits_literal}
use Rattle.width_rules.specs.Sources as sources
use Rattle.width_rules.specs.Sources.{least_holding}
use Rattle.fir_meaning.specs.Values as meaning
use Rattle.fir_meaning.specs.Values.{least_width}

below_is : (m k : ℕ) → nat_lt m k ≡ nat_le (suc m) k
below_is m k = by (nat_lt m k) refl where
  by : (b : Bool) → nat_lt m k ≡ b → b ≡ nat_le (suc m) k
  by true q = sym (le-leb (suc m) k (let h : m < k = ltb-true m k q in omega (arith, h)))
  by false q = sym (lt-leb (suc m) k (let h : k ≤ m = ltb-false m k q in omega (arith, h)))

unsigned_holds : (m w : ℕ) → holds Unsigned (suc w) (pos m) ≡ nat_le (suc m) (2 ^ suc w)
unsigned_holds m w = ap (λ b. b && nat_lt m (2 ^ suc w)) (le-leb 0 m (omega arith)) ∙ below_is m (2 ^ suc w)

from_negative : (p m : ℕ) → int_le (neg_ℤ (pos p)) (pos m) ≡ true
from_negative zero m = le-leb 0 m (omega arith)
from_negative (suc p) m = refl

signed_holds : (m w : ℕ) → holds Signed (suc w) (pos m) ≡ nat_le (suc m) (2 ^ w)
signed_holds m w = ap (λ b. b && nat_lt m (2 ^ w)) (from_negative (2 ^ w) m) ∙ below_is m (2 ^ w)

within_negative : (p m : ℕ) → (int_le (neg_ℤ (pos p)) (negsuc m) && int_lt (negsuc m) (pos p)) ≡ nat_le (suc m) p
within_negative zero m = sym (lt-leb (suc m) 0 (omega arith))
within_negative (suc p) m = by (nat_le m p) refl where
  by : (b : Bool) → nat_le m p ≡ b → (b && true) ≡ nat_le (suc m) (suc p)
  by true q = sym (le-leb (suc m) (suc p) (let h : m ≤ p = leb-true m p q in omega (arith, h)))
  by false q = sym (lt-leb (suc m) (suc p) (let h : p < m = leb-false m p q in omega (arith, h)))

same_unsigned : (n : ℤ) (d : ℕ) → ((w : ℕ) → holds Unsigned (suc w) n ≡ nat_le d (2 ^ suc w)) → (from more : ℕ) → least_holding Unsigned n (suc from) (suc more) ≤ suc from + more
    → least_reaching d (suc from) more ≡ least_holding Unsigned n (suc from) (suc more)
unfolding least_reaching
same_unsigned n d h from zero le = by (holds Unsigned (suc from) n) refl le where
  by : (b : Bool) → holds Unsigned (suc from) n ≡ b → (if b then suc from else suc (suc from)) ≤ suc from + 0 → suc from ≡ (if b then suc from else suc (suc from))
  by true q l = refl
  by false q l = absurd (omega (arith, l))
same_unsigned n d h from (suc more) le = by (holds Unsigned (suc from) n) refl le (same_unsigned n d h (suc from) more) where
  by : (b : Bool) → holds Unsigned (suc from) n ≡ b → (if b then suc from else least_holding Unsigned n (suc (suc from)) (suc more)) ≤ suc from + suc more
      → (least_holding Unsigned n (suc (suc from)) (suc more) ≤ suc (suc from) + more → least_reaching d (suc (suc from)) more ≡ least_holding Unsigned n (suc (suc from)) (suc more))
      → (if nat_le d (2 ^ suc from) then suc from else least_reaching d (suc (suc from)) more) ≡ (if b then suc from else least_holding Unsigned n (suc (suc from)) (suc more))
  by true q l rest = ap (λ b. if b then suc from else least_reaching d (suc (suc from)) more) (sym (h from) ∙ q)
  by false q l rest = ap (λ b. if b then suc from else least_reaching d (suc (suc from)) more) (sym (h from) ∙ q) ∙ rest (omega (arith, l))

same_signed : (n : ℤ) (d : ℕ) → ((w : ℕ) → holds Signed (suc w) n ≡ nat_le d (2 ^ w)) → (from more : ℕ) → least_holding Signed n (suc from) (suc more) ≤ suc from + more
    → suc (least_reaching d from more) ≡ least_holding Signed n (suc from) (suc more)
unfolding least_reaching
same_signed n d h from zero le = by (holds Signed (suc from) n) refl le where
  by : (b : Bool) → holds Signed (suc from) n ≡ b → (if b then suc from else suc (suc from)) ≤ suc from + 0 → suc from ≡ (if b then suc from else suc (suc from))
  by true q l = refl
  by false q l = absurd (omega (arith, l))
same_signed n d h from (suc more) le = by (holds Signed (suc from) n) refl le (same_signed n d h (suc from) more) where
  by : (b : Bool) → holds Signed (suc from) n ≡ b → (if b then suc from else least_holding Signed n (suc (suc from)) (suc more)) ≤ suc from + suc more
      → (least_holding Signed n (suc (suc from)) (suc more) ≤ suc (suc from) + more → suc (least_reaching d (suc from) more) ≡ least_holding Signed n (suc (suc from)) (suc more))
      → suc (if nat_le d (2 ^ from) then from else least_reaching d (suc from) more) ≡ (if b then suc from else least_holding Signed n (suc (suc from)) (suc more))
  by true q l rest = ap (λ b. suc (if b then from else least_reaching d (suc from) more)) (sym (h from) ∙ q)
  by false q l rest = ap (λ b. suc (if b then from else least_reaching d (suc from) more)) (sym (h from) ∙ q) ∙ rest (omega (arith, l))

least_of : (kind : Kind) (n : ℤ) → fits_literal kind None n ≡ true → least_holding kind n 1 128 ≤ 128 → least_width kind n ≡ least_holding kind n 1 128
least_of Unsigned (pos m) f le = same_unsigned (pos m) (suc m) (unsigned_holds m) 0 127 (omega (arith, le))
least_of Unsigned (negsuc m) f le = cc
least_of Signed (pos m) f le = same_signed (pos m) (suc m) (signed_holds m) 0 127 (omega (arith, le))
least_of Signed (negsuc m) f le = same_signed (negsuc m) (suc m) (λ w. within_negative (2 ^ w) m) 0 127 (omega (arith, le))

pub same_least : (kind : Kind) (width : Option ℕ) (n : ℤ) → fits_literal kind width n ≡ true → sources.literal_bits kind n width ≤ 128
    → meaning.literal_width kind n width ≡ sources.literal_bits kind n width
same_least kind (Some w) n f le = refl
same_least kind None n f le = least_of kind n f le
