-- Bits that are moved.
use Rattle.std.proofs.Common.{◌≡◌, ℕ, ◌+◌, ◌-◌, ◌*◌, ◌%◌, ◌^◌, ◌<◌, ◌≤◌, ℤ, Some, bit_and, bit_or, bit_xor, ap, sym, ◌∙◌, arith, pow_mono, pow_pos, ⊎_elim}
use Rattle.std.proofs.lemmas.Bool.{cases_lt}
use Rattle.std.proofs.lemmas.Nat.{or_shifted, and_mod, or_mod, xor_mod, shl_below, one_shl}
use Rattle.std.proofs.Math.Nat.{mod-mod, mod-eq_of_lt}
use Rattle.bit_words.specs.declared.value.Kind.TheVariants.{Signed}
use Rattle.bit_words.specs.declared.value.Value.{Value}
use Rattle.bit_words.specs.Values.{bits_of}
use Rattle.bit_words.proofs.Congruence.{fit_same, integer_in_range}
use Rattle.prim_ops.specs.declared.operation.PrimOp.TheVariants.{Cvt}
use Rattle.prim_ops.specs.Results.{IsOnOne}
use Rattle.prim_ops.proofs.Residues.{word_low}

-- a value with a sign is converted already
pub converted : (x : Value) → x.kind ≡ Signed → IsOnOne Cvt x 0 0 x
converted x signed = record {
  kind = ap Some (sym signed);
  width = rw signed;
  integer = sym (fit_same x.kind x.width _ (integer_in_range x.kind x.width x.bits x.within));
}

-- the first bits above the second
pub joined : (k fb sb v w top : ℕ) → fb < 2 ^ v → sb < 2 ^ w → v + w ≤ k → top < 2 ^ k → top % 2 ^ k ≡ (fb * 2 ^ w) % 2 ^ k → bit_or top sb ≡ fb * 2 ^ w + sb
joined k fb sb v w top first second small within shifted =
    let product : fb * 2 ^ w < 2 ^ (v + w) = shl_below fb v w first in
    let room : 2 ^ (v + w) ≤ 2 ^ k = pow_mono small in
    let below : fb * 2 ^ w < 2 ^ k = omega arith in
    let is : top ≡ fb * 2 ^ w = sym (mod-eq_of_lt within) ∙ shifted ∙ mod-eq_of_lt below in
    rw is (or_shifted fb w sb second)

-- the greatest shift by a number of a width
few : (v w : ℕ) → v + 2 ^ w - 1 ≤ 128 → w < 8
few v w narrow = ⊎_elim (λ less. less) (λ most. let p : 2 ^ 8 ≤ 2 ^ w = pow_mono most in absurd (omega arith)) (cases_lt w 8)

room : (k v w : ℕ) → w < k → v + ((1 * 2 ^ w) % 2 ^ k - 1) ≡ v + 2 ^ w - 1
room k v w below = let one = one_shl w k below in let some = pow_pos w in omega arith

pub shift_room : (v w : ℕ) → v + 2 ^ w - 1 ≤ 128 → v + ((1 * 2 ^ w) % 2 ^ 128 - 1) ≡ v + 2 ^ w - 1
shift_room v w narrow = let below = few v w narrow in room 128 v w (omega arith)

pub shift_narrow : (v w : ℕ) → v + 2 ^ w - 1 ≤ 128 → v + ((1 * 2 ^ w) % 2 ^ 128 - 1) ≤ 128
shift_narrow v w narrow = let e = shift_room v w narrow in omega arith

both_low : (f : ℕ → ℕ → ℕ) (w k x y : ℕ) (a b : ℤ) → ((m n : ℕ) → f m n % 2 ^ w ≡ f (m % 2 ^ w) (n % 2 ^ w)) → w ≤ k → x ≡ bits_of k a → y ≡ bits_of k b
    → f x y % 2 ^ w ≡ f (bits_of w a) (bits_of w b) % 2 ^ w
both_low f w k x y a b law small e g =
    let parts : f x y % 2 ^ w ≡ f (bits_of w a) (bits_of w b) = law x y ∙ (λ j. f (word_low w k x a small e j) (word_low w k y b small g j)) in
    sym (mod-mod (f x y) (2 ^ w)) ∙ ap (λ n. n % 2 ^ w) parts

pub and_low : (v w k x y : ℕ) (a b : ℤ) → v ≡ w → w ≤ k → x ≡ bits_of k a → y ≡ bits_of k b → bit_and x y % 2 ^ v ≡ bit_and (bits_of w a) (bits_of w b) % 2 ^ v
and_low v w k x y a b same small e g = rw same (both_low bit_and w k x y a b (λ m n. and_mod m n w) small e g)

pub or_low : (v w k x y : ℕ) (a b : ℤ) → v ≡ w → w ≤ k → x ≡ bits_of k a → y ≡ bits_of k b → bit_or x y % 2 ^ v ≡ bit_or (bits_of w a) (bits_of w b) % 2 ^ v
or_low v w k x y a b same small e g = rw same (both_low bit_or w k x y a b (λ m n. or_mod m n w) small e g)

pub xor_low : (v w k x y : ℕ) (a b : ℤ) → v ≡ w → w ≤ k → x ≡ bits_of k a → y ≡ bits_of k b → bit_xor x y % 2 ^ v ≡ bit_xor (bits_of w a) (bits_of w b) % 2 ^ v
xor_low v w k x y a b same small e g = rw same (both_low bit_xor w k x y a b (λ m n. xor_mod m n w) small e g)
