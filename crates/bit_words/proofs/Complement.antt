-- Two's complement.
use Rattle.std.proofs.Common.{◌≡◌, ℕ, ◌+◌, ◌-◌, ◌*◌, ◌/◌, ◌%◌, ◌^◌, ◌<◌, ◌≤◌, ap, sym, ◌∙◌, arith, pow-add, pow_pos, pow_mono, mod-lt, div-add-mod', div-lt_iff_lt-mul, negsuc}
use Rattle.std.proofs.lemmas.Nat.{mod-mul-add}
use Rattle.std.proofs.lemmas.Bool.Decides.{nat_tests}
use Rattle.bit_words.specs.declared.value.Kind.{Kind}
use Rattle.bit_words.specs.declared.value.Kind.TheVariants.{Signed}
use Rattle.bit_words.specs.Values.{integer, bits_of}

flipped : (m p q r h w : ℕ) → m ≡ q * w + r → r < w → h ≡ p + q + 1 → h * w - 1 - m ≡ p * w + (w - 1 - r)
flipped m p q r h w e l k =
    let whole : h * w ≡ (p + q + 1) * w = ap (λ x. x * w) k in
    let parts : (p + q + 1) * w ≡ p * w + q * w + w = omega arith in
    omega arith

turned_mod : (n m w h : ℕ) → 0 < w → h * w ≡ n → m < n → (n - 1 - m) % w ≡ w - 1 - m % w
turned_mod n m w h some whole below =
    let below_all : m < h * w = omega arith in
    let quotient : m / w < h = (div-lt_iff_lt-mul some).1 below_all in
    let split : m ≡ m / w * w + m % w = sym (div-add-mod' m w) in
    let rest : m % w < w = mod-lt m some in
    let high : h ≡ (h - 1 - m / w) + m / w + 1 = omega arith in
    let turned : h * w - 1 - m ≡ (h - 1 - m / w) * w + (w - 1 - m % w) = flipped m (h - 1 - m / w) (m / w) (m % w) h w split rest high in
    rw (← whole, turned) (mod-mul-add (h - 1 - m / w) w (w - 1 - m % w) (omega arith))

-- the bits of a negative number, at any width up to 128
pub neg_mod : (m width : ℕ) → width ≤ 128 → m < 2 ^ 128 → (2 ^ 128 - 1 - m) % 2 ^ width ≡ 2 ^ width - 1 - m % 2 ^ width
neg_mod m width small below =
    let exponent : 128 - width + width ≡ 128 = omega arith in
    let whole : 2 ^ (128 - width) * 2 ^ width ≡ 2 ^ 128 = sym (pow-add 2 (128 - width) width) ∙ ap (λ k. 2 ^ k) exponent in
    turned_mod (2 ^ 128) m (2 ^ width) (2 ^ (128 - width)) (pow_pos width) whole below

-- extending a negative number's bits to 128
pub extended_bits : (kind : Kind) (width bits span to : ℕ) → kind ≡ Signed → width ≤ 128 → bits < 2 ^ width → span + 1 ≡ 2 ^ width → 2 ^ width ≤ 2 * bits → to ≤ 128
    → (2 ^ 128 - 1 - (span - bits)) % 2 ^ to ≡ bits_of to (integer kind width bits)
extended_bits kind width bits span to k narrow within s negative small =
    let read : integer kind width bits ≡ negsuc (2 ^ width - 1 - bits) = rw k (grind (arith, nat_tests)) in
    let same : span - bits ≡ 2 ^ width - 1 - bits = omega arith in
    let below : 2 ^ width ≤ 2 ^ 128 = pow_mono narrow in
    rw (read, same) (neg_mod (2 ^ width - 1 - bits) to small (omega arith))
