-- The bits of a value with a sign from one on, and its sign where there are no more.
use Rattle.std.proofs.Common.{◌≡◌, ℕ, ◌+◌, ◌-◌, ◌*◌, ◌/◌, ◌%◌, ◌^◌, ◌<◌, ◌≤◌, min, max, Bool, true, false, nat_lt, if◌then◌else◌, pos, negsuc, refl, sym, ap, ap₂, ◌∙◌, arith, ⊎_elim, pow_mono, pow_pos, pow-add, mod-lt, mod-eq_of_lt, div-add-mod'}
use Rattle.std.proofs.lemmas.Bool.{cases_lt, ltb-true, ltb-false}
use Rattle.std.proofs.Math.Nat.{div-eq_of_lt, add-mul-div_right}
use Rattle.bit_words.specs.declared.value.Kind.TheVariants.{Signed}
use Rattle.bit_words.specs.Values.{integer, bits_of}
use Rattle.prim_ops.specs.Results.{floor_div}

-- a number of a product counted from its end
from_end : (P Q b : ℕ) → 0 < P → b < Q * P → b / P < Q → (Q * P - 1 - b) / P ≡ Q - 1 - b / P
from_end P Q b some below less =
    let q = b / P in
    let r = b % P in
    let m = Q - 1 - q in
    let split = div-add-mod' b P in
    let rest = mod-lt b some in
    let parts : m + 1 + q ≡ Q = omega (arith, less) in
    let whole : Q * P ≡ m * P + P + q * P = ap (λ k. k * P) (sym parts) ∙ spread m q P in
    let is : Q * P - 1 - b ≡ P - 1 - r + m * P = omega (arith, whole, split, rest) in
    ap (λ n. n / P) is ∙ (add-mul-div_right (P - 1 - r) m some ∙ (let none : (P - 1 - r) / P ≡ 0 = div-eq_of_lt (omega (arith, rest, some)) in ap (λ n. n + m) none ∙ zero_plus m))
  where
    spread : (m q P : ℕ) → (m + 1 + q) * P ≡ m * P + P + q * P
    spread m q P = omega arith

    zero_plus : (m : ℕ) → 0 + m ≡ m
    zero_plus m = omega arith

quotient_below : (b n w : ℕ) → b < 2 ^ w * 2 ^ n → b / 2 ^ n < 2 ^ w
quotient_below b n w below =
    ⊎_elim
    (λ lt. lt)
    (λ le. let split = div-add-mod' b (2 ^ n) in let more : 2 ^ w * 2 ^ n ≤ b / 2 ^ n * 2 ^ n = times_mono (2 ^ w) (b / 2 ^ n) (2 ^ n) le in absurd (omega (arith, split, more, below)))
    (cases_lt (b / 2 ^ n) (2 ^ w))
  where
    times_mono : (x y z : ℕ) → x ≤ y → x * z ≤ y * z
    times_mono x y z le = let e : y ≡ x + (y - x) = omega (arith, le) in let f : y * z ≡ x * z + (y - x) * z = ap (λ k. k * z) e ∙ spread x (y - x) z in omega (arith, f)
      where
        spread : (x d z : ℕ) → (x + d) * z ≡ x * z + d * z
        spread x d z = omega arith

split_power : (v n : ℕ) → n < v → 2 ^ v ≡ 2 ^ (v - n) * 2 ^ n
split_power v n lt = let e : v ≡ v - n + n = omega (arith, lt) in ap (λ k. 2 ^ k) e ∙ pow-add 2 (v - n) n

-- below its width
few_bits : (s : Bool) (v n b : ℕ) → n < v → b < 2 ^ v → bits_of (v - n) (floor_div (if s then pos b else negsuc (2 ^ v - 1 - b)) (2 ^ n)) ≡ b / 2 ^ n % 2 ^ (v - n)
few_bits true v n b lt below = refl
few_bits false v n b lt below =
    let W = 2 ^ (v - n) in
    let P = 2 ^ n in
    let power = split_power v n lt in
    let inside : b < W * P = omega (arith, below, power) in
    let less = quotient_below b n (v - n) inside in
    let count : (2 ^ v - 1 - b) / P ≡ W - 1 - b / P = ap (λ k. (k - 1 - b) / P) power ∙ from_end P W b (pow_pos n) inside less in
    let small : (W - 1 - b / P) % W ≡ W - 1 - b / P = mod-eq_of_lt (omega (arith, less)) in
    let back : W - 1 - (W - 1 - b / P) ≡ b / P = omega (arith, less) in
    ap (λ k. W - 1 - k % W) count ∙ (ap (λ k. W - 1 - k) small ∙ (back ∙ sym (mod-eq_of_lt less)))

half_power : (v : ℕ) → 0 < v → 2 ^ v ≡ 2 * 2 ^ (v - 1)
half_power v some = let e : v ≡ 1 + (v - 1) = omega (arith, some) in ap (λ k. 2 ^ k) e ∙ pow-add 2 1 (v - 1)

half_number : (h b : ℕ) → 0 < h → h ≤ b → b < 2 * h → b / h ≡ 1
half_number h b some le lt =
    let is : b ≡ b - h + 1 * h = omega (arith, le) in
    let none : (b - h) / h ≡ 0 = div-eq_of_lt (omega (arith, le, lt)) in
    ap (λ k. k / h) is ∙ (add-mul-div_right (b - h) 1 some ∙ ap (λ k. k + 1) none)

-- past it
sign_bit : (s : Bool) (v n b : ℕ) → s ≡ nat_lt (2 * b) (2 ^ v) → 0 < v → v ≤ n → b < 2 ^ v → bits_of 1 (floor_div (if s then pos b else negsuc (2 ^ v - 1 - b)) (2 ^ n)) ≡ b / 2 ^ (v - 1) % 2 ^ 1
sign_bit true v n b s some past below =
    let low = ltb-true (2 * b) (2 ^ v) (sym s) in
    let power = half_power v some in
    let most : 2 ^ v ≤ 2 ^ n = pow_mono past in
    let first : b / 2 ^ n ≡ 0 = div-eq_of_lt (omega (arith, below, most)) in
    let second : b / 2 ^ (v - 1) ≡ 0 = div-eq_of_lt (omega (arith, low, power)) in
    ap (λ k. k % 2 ^ 1) (first ∙ sym second)
sign_bit false v n b s some past below =
    let high = ltb-false (2 * b) (2 ^ v) (sym s) in
    let power = half_power v some in
    let most : 2 ^ v ≤ 2 ^ n = pow_mono past in
    let first : (2 ^ v - 1 - b) / 2 ^ n ≡ 0 = div-eq_of_lt (omega (arith, below, most)) in
    let second : b / 2 ^ (v - 1) ≡ 1 = half_number (2 ^ (v - 1)) b (pow_pos (v - 1)) (omega (arith, high, power)) (omega (arith, below, power)) in
    ap (λ k. 2 ^ 1 - 1 - k % 2 ^ 1) first ∙ ap (λ k. k % 2 ^ 1) (sym second)

pub shifted_signed : (v n b w : ℕ) → 0 < v → b < 2 ^ v → w ≡ max (v - n) 1 → bits_of w (floor_div (integer Signed v b) (2 ^ n)) ≡ b / 2 ^ min n (v - 1) % 2 ^ w
shifted_signed v n b w some below e = ⊎_elim
    (λ lt.
    let width : w ≡ v - n = omega (arith, e, lt) in
    let low : n ≡ min n (v - 1) = omega (arith, lt) in
    ap (λ k. bits_of k (floor_div (integer Signed v b) (2 ^ n))) width ∙ (few_bits (nat_lt (2 * b) (2 ^ v)) v n b lt below ∙ ap₂ (λ k m. b / 2 ^ k % 2 ^ m) low (sym width)))
    (λ past.
    let width : w ≡ 1 = omega (arith, e, past) in
    let low : v - 1 ≡ min n (v - 1) = omega (arith, past) in
    ap (λ k. bits_of k (floor_div (integer Signed v b) (2 ^ n))) width ∙ (sign_bit (nat_lt (2 * b) (2 ^ v)) v n b refl some past below ∙ ap₂ (λ k m. b / 2 ^ k % 2 ^ m) low (sym width)))
    (cases_lt n v)
