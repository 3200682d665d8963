-- Integers that differ by a multiple of a power of two.
use Rattle.std.proofs.Common.{◌≡◌, ℕ, zero, suc, ◌+◌, ◌-◌, ◌*◌, ◌/◌, ◌^◌, ◌<◌, ◌≤◌, Bool, true, false, nat_lt, if◌then◌else◌, ℤ, pos, negsuc, ◌+ℤ◌, ◌-ℤ◌, ◌*ℤ◌, ◌<ℤ◌, refl, ap, sym, arith, ◌⊎◌, ⊎_elim, pow_pos, mod-lt, div-add-mod'}
use Rattle.std.proofs.Math.Nat.{pow-suc}
use Rattle.std.proofs.lemmas.Bool.{cases_lt, ltb-true, ltb-false}
use Rattle.std.proofs.lemmas.Int.{ints}
use Rattle.bit_words.specs.declared.value.Kind.{Kind}
use Rattle.bit_words.specs.declared.value.Kind.TheVariants.{Unsigned, Signed}
use Rattle.bit_words.specs.Values.{integer, bits_of, fit_of, InRange, Congruent}

-- two integers are equal after multiples of a power of two are added
pub record Level (w : ℕ) (a b : ℤ) : Type 0 where
  pub left : ℕ
  pub right : ℕ
  pub same : a +ℤ pos (left * 2 ^ w) ≡ b +ℤ pos (right * 2 ^ w)

level_by : (w : ℕ) (a b k : ℤ) → a -ℤ b ≡ k *ℤ pos (2 ^ w) → Level w a b
level_by w a b (pos p) e = record { left = 0; right = p; same = omega (arith, ints) }
level_by w a b (negsuc p) e = record { left = suc p; right = 0; same = omega (arith, ints) }

pub Level-from : (w : ℕ) (a b : ℤ) → Congruent w a b → Level w a b
Level-from w a b c = level_by w a b c.0 c.1

apart : (p q w : ℕ) → q < p → p * w ≡ q * w + suc (p - q - 1) * w
apart p q w less = let e : p ≡ q + suc (p - q - 1) = omega arith in let f : p * w ≡ (q + suc (p - q - 1)) * w = ap (λ x. x * w) e in omega arith

above : (p q w : ℕ) → p ≤ q → q * w ≡ p * w + (q - p) * w
above p q w most = let e : q ≡ p + (q - p) = omega arith in let f : q * w ≡ (p + (q - p)) * w = ap (λ x. x * w) e in omega arith

congruent_by : (w : ℕ) (a b : ℤ) (p q : ℕ) → a +ℤ pos (p * 2 ^ w) ≡ b +ℤ pos (q * 2 ^ w) → (q < p) ⊎ (p ≤ q) → Congruent w a b
congruent_by w a b p q e order = ⊎_elim
    (λ less. let f = apart p q (2 ^ w) less in (negsuc (p - q - 1), omega (arith, ints)))
    (λ most. let f = above p q (2 ^ w) most in (pos (q - p), omega (arith, ints)))
    order

pub Congruent-from : (w : ℕ) (a b : ℤ) → Level w a b → Congruent w a b
Congruent-from w a b l = congruent_by w a b l.left l.right l.same (cases_lt l.right l.left)

pub Level-trans : (w : ℕ) (a b c : ℤ) → Level w a b → Level w b c → Level w a c
Level-trans w a b c l m = record { left = l.left + m.left; right = l.right + m.right; same = omega (arith, ints, l.same, m.same) }

pub Level-sym : (w : ℕ) (a b : ℤ) → Level w a b → Level w b a
Level-sym w a b l = record { left = l.right; right = l.left; same = sym l.same }

pub bits_below : (w : ℕ) (n : ℤ) → bits_of w n < 2 ^ w
bits_below w (pos n) = mod-lt n (pow_pos w)
bits_below w (negsuc n) = let some = pow_pos w in omega arith

pub bits_level : (w : ℕ) (n : ℤ) → Level w (pos (bits_of w n)) n
bits_level w (pos n) = let split = div-add-mod' n (2 ^ w) in record { left = n / 2 ^ w; right = 0; same = omega (arith, ints) }
bits_level w (negsuc n) =
    let split = div-add-mod' n (2 ^ w) in
    let below = mod-lt n (pow_pos w) in
    record { left = 0; right = suc (n / 2 ^ w); same = omega (arith, ints) }

signed_level : (w bits : ℕ) (b : Bool) → bits < 2 ^ w → Level w (if b then pos bits else negsuc (2 ^ w - 1 - bits)) (pos bits)
signed_level w bits true below = record { left = 0; right = 0; same = refl }
signed_level w bits false below = record { left = 1; right = 0; same = omega (arith, ints) }

integer_level : (kind : Kind) (w bits : ℕ) → bits < 2 ^ w → Level w (integer kind w bits) (pos bits)
integer_level Unsigned w bits below = record { left = 0; right = 0; same = refl }
integer_level Signed w bits below = signed_level w bits (nat_lt (2 * bits) (2 ^ w)) below

pub fit_congruent : (kind : Kind) (w : ℕ) (n : ℤ) → Congruent w (fit_of kind w n) n
fit_congruent kind w n = Congruent-from w _ n (Level-trans w _ _ n (integer_level kind w (bits_of w n) (bits_below w n)) (bits_level w n))

signed_in_range : (w bits : ℕ) (b : Bool) → nat_lt (2 * bits) (2 ^ suc w) ≡ b → bits < 2 ^ suc w
    → InRange Signed (suc w) (if b then pos bits else negsuc (2 ^ suc w - 1 - bits))
signed_in_range w bits true test below =
    let less = ltb-true (2 * bits) (2 ^ suc w) test in
    let half = pow-suc 2 w in
    (omega (arith, ints), omega (arith, ints))
signed_in_range w bits false test below =
    let most = ltb-false (2 * bits) (2 ^ suc w) test in
    let half = pow-suc 2 w in
    (omega (arith, ints), omega (arith, ints))

no_bits : (bits : ℕ) → bits < 2 ^ 0 → bits ≡ 0
no_bits bits below = omega arith

signed_zero : (bits : ℕ) → bits ≡ 0 → integer Signed 0 bits ≡ pos 0
signed_zero bits e = rw e refl

pub integer_in_range : (kind : Kind) (w bits : ℕ) → bits < 2 ^ w → InRange kind w (integer kind w bits)
integer_in_range Unsigned zero bits below = ap pos (no_bits bits below)
integer_in_range Signed zero bits below = signed_zero bits (no_bits bits below)
integer_in_range Unsigned (suc w) bits below = (omega (arith, ints), omega (arith, ints))
integer_in_range Signed (suc w) bits below = signed_in_range w bits (nat_lt (2 * bits) (2 ^ suc w)) refl below

pub fit_in_range : (kind : Kind) (w : ℕ) (n : ℤ) → InRange kind w (fit_of kind w n)
fit_in_range kind w n = integer_in_range kind w (bits_of w n) (bits_below w n)

-- two integers in range are closer than the power of two
near : (kind : Kind) (w : ℕ) (a b : ℤ) → InRange kind w a → InRange kind w b → a <ℤ (b +ℤ pos (2 ^ w))
near Unsigned zero a b x y = let some = pow_pos 0 in omega (arith, ints)
near Signed zero a b x y = let some = pow_pos 0 in omega (arith, ints)
near Unsigned (suc w) a b x y = omega (arith, ints, x.0, x.1, y.0, y.1)
near Signed (suc w) a b x y = let half = pow-suc 2 w in omega (arith, ints, x.0, x.1, y.0, y.1)

same_by : (w : ℕ) (a b : ℤ) (p q : ℕ) → a <ℤ (b +ℤ pos (2 ^ w)) → b <ℤ (a +ℤ pos (2 ^ w)) → a +ℤ pos (p * 2 ^ w) ≡ b +ℤ pos (q * 2 ^ w)
    → (q < p) ⊎ (p ≤ q) → (p < q) ⊎ (q ≤ p) → a ≡ b
same_by w a b p q x y e first second = ⊎_elim
    (λ less. let f = apart p q (2 ^ w) less in absurd (omega (arith, ints)))
    (λ most. ⊎_elim
    (λ less. let f = apart q p (2 ^ w) less in absurd (omega (arith, ints)))
    (λ least. let same : p ≡ q = omega arith in let f : p * 2 ^ w ≡ q * 2 ^ w = ap (λ x. x * 2 ^ w) same in omega (arith, ints))
    second)
    first

pub same_in_range : (kind : Kind) (w : ℕ) (a b : ℤ) → InRange kind w a → InRange kind w b → Level w a b → a ≡ b
same_in_range kind w a b x y l =
    same_by w a b l.left l.right (near kind w a b x y) (near kind w b a y x) l.same (cases_lt l.right l.left) (cases_lt l.left l.right)

pub one_fits : (kind : Kind) (w : ℕ) (n m : ℤ) → InRange kind w m → Congruent w m n → m ≡ fit_of kind w n
one_fits kind w n m within c =
    let mine = Level-from w m n c in
    let its = Level-from w (fit_of kind w n) n (fit_congruent kind w n) in
    same_in_range kind w m (fit_of kind w n) within (fit_in_range kind w n) (Level-trans w m n _ mine (Level-sym w _ n its))

pub Level-refl : (w : ℕ) (a : ℤ) → Level w a a
Level-refl w a = record { left = 0; right = 0; same = refl }

-- an integer in range stays
pub fit_same : (kind : Kind) (w : ℕ) (n : ℤ) → InRange kind w n → fit_of kind w n ≡ n
fit_same kind w n within = sym (one_fits kind w n n within (Congruent-from w n n (Level-refl w n)))

-- the bits of the integer that bits mean
pub bits_back : (kind : Kind) (w bits : ℕ) → bits < 2 ^ w → bits_of w (integer kind w bits) ≡ bits
bits_back kind w bits below =
    let n = integer kind w bits in
    let mine = bits_level w n in
    let its = integer_level kind w bits below in
    let same = same_in_range Unsigned w (pos (bits_of w n)) (pos bits) (integer_in_range Unsigned w (bits_of w n) (bits_below w n)) (integer_in_range Unsigned w bits below) (Level-trans w _ n _ mine its) in
    cc
