-- The words of values that are cut to a width.
use Rattle.std.proofs.Common.{◌≡◌, ℕ, ◌+◌, ◌-◌, ◌*◌, ◌/◌, ◌%◌, ◌^◌, ◌<◌, ◌≤◌, min, pos, bit_and, sym, ap, ◌∙◌, arith, pow_pos, pow_mono, pow-add, mod-lt, mod-eq_of_lt}
use Rattle.std.proofs.Math.Pow.{mod-mod-pow}
use Rattle.std.proofs.Math.Nat.{add-mul-mod_self_right, add-mul-div_right, mul-add-div_right, div-eq_of_lt}
use Rattle.std.proofs.lemmas.Nat.{mod-pow-add, and_mask}
use Rattle.bit_words.specs.declared.value.Kind.{Kind}
use Rattle.prim_ops.specs.Values.{fitted}

pub fitted_bits : (kind : Kind) (width n : ℕ) → width ≤ 128 → (fitted kind width (pos n)).bits ≡ n % 2 ^ width
fitted_bits kind width n h = let e : min width 128 ≡ width = omega (arith, h) in ap (λ w. n % 2 ^ w) e

-- words above the 64th bit don't count up to that width
pub low_cut : (x y w : ℕ) → w ≤ 64 → (x + y * 2 ^ 64) % 2 ^ w ≡ x % 2 ^ w
low_cut x y w h =
    let e : (64 - w) + w ≡ 64 = omega (arith, h) in
    let split : 2 ^ 64 ≡ 2 ^ (64 - w) * 2 ^ w = ap (λ k. 2 ^ k) (sym e) ∙ pow-add 2 (64 - w) w in
    let regroup : y * (2 ^ (64 - w) * 2 ^ w) ≡ (y * 2 ^ (64 - w)) * 2 ^ w = omega arith in
    ap (λ p. (x + y * p) % 2 ^ w) split ∙ (ap (λ p. (x + p) % 2 ^ w) regroup ∙ add-mul-mod_self_right x (y * 2 ^ (64 - w)) (2 ^ w))

-- a number of at most 64 bits is its low word
pub low_whole : (n w : ℕ) → w ≤ 64 → n % 2 ^ w % 2 ^ 64 ≡ n % 2 ^ w
low_whole n w h = mod_small (n % 2 ^ w) (below (n % 2 ^ w) w (mod-lt n (pow_pos w)) h)
  where
    mod_small : (m : ℕ) → m < 2 ^ 64 → m % 2 ^ 64 ≡ m
    mod_small m lt = mod-eq_of_lt lt

    below : (m w : ℕ) → m < 2 ^ w → w ≤ 64 → m < 2 ^ 64
    below m w lt le = let p : 2 ^ w ≤ 2 ^ 64 = pow_mono le in omega (arith, lt, p)

-- the low word of a number of more bits
pub low_wide : (x y w : ℕ) → 64 ≤ w → (x + y * 2 ^ 64) % 2 ^ w % 2 ^ 64 ≡ x % 2 ^ 64
low_wide x y w h =
    let e : (w - 64) + 64 ≡ w = omega (arith, h) in
    ap (λ k. (x + y * 2 ^ 64) % 2 ^ k % 2 ^ 64) (sym e) ∙ (mod-mod-pow (x + y * 2 ^ 64) (w - 64) 64 ∙ add-mul-mod_self_right x y (2 ^ 64))

-- its high word
pub high_wide : (x y w : ℕ) → 64 ≤ w → x < 2 ^ 64 → (x + y * 2 ^ 64) % 2 ^ w / 2 ^ 64 ≡ y % 2 ^ (w - 64)
high_wide x y w h small =
    let n = x + y * 2 ^ 64 in
    let e : (w - 64) + 64 ≡ w = omega (arith, h) in
    let high : n / 2 ^ 64 ≡ y = add-mul-div_right x y (pow_pos 64) ∙ (ap (λ q. q + y) (div-eq_of_lt small) ∙ zero_plus y) in
    ap (λ k. n % 2 ^ k / 2 ^ 64) (sym e)
    ∙ (ap (λ m. m / 2 ^ 64) (mod-pow-add n (w - 64) 64)
    ∙ (mul-add-div_right (pow_pos 64) (n / 2 ^ 64 % 2 ^ (w - 64)) (n % 2 ^ 64)
    ∙ (ap (λ q. n / 2 ^ 64 % 2 ^ (w - 64) + q) (div-eq_of_lt (mod-lt n (pow_pos 64))) ∙ (plus_zero (n / 2 ^ 64 % 2 ^ (w - 64)) ∙ ap (λ m. m % 2 ^ (w - 64)) high))))
  where
    zero_plus : (m : ℕ) → 0 + m ≡ m
    zero_plus m = omega arith

    plus_zero : (m : ℕ) → m + 0 ≡ m
    plus_zero m = omega arith

pub masked : (n k mask : ℕ) → mask ≡ 2 ^ k - 1 → bit_and n mask ≡ n % 2 ^ k
masked n k mask e = ap (λ m. bit_and n m) e ∙ and_mask n k
