-- What integers leave modulo powers of two.
use Rattle.std.proofs.Common.{◌≡◌, ℕ, ◌+◌, ◌-◌, ◌*◌, ◌%◌, ◌^◌, ◌<◌, ◌≤◌, ℤ, pos, neg_ℤ, ◌+ℤ◌, ◌-ℤ◌, ◌*ℤ◌, refl, ap, sym, ◌∙◌, arith, pow-add}
use Rattle.std.proofs.lemmas.Int.{ints}
use Rattle.std.proofs.Math.Nat.{zero-mod}
use lib.IntN.{*ℤ_comm}
use borrow.Author.Differences.{up, down, same_in, same_out, sum_is_lem, product_is}
use Rattle.bit_words.specs.declared.value.Kind.TheVariants.{Unsigned}
use Rattle.bit_words.specs.Values.{bits_of}
use Rattle.bit_words.proofs.Congruence.{Level, Level-trans, Level-sym, bits_below, bits_level, integer_in_range, same_in_range}

-- integers that differ by a multiple of the power have the same bits
pub same_low : (w : ℕ) (a b : ℤ) → Level w a b → bits_of w a ≡ bits_of w b
same_low w a b l =
    let m = Level-trans w (pos (bits_of w a)) a (pos (bits_of w b)) (bits_level w a) (Level-trans w a b (pos (bits_of w b)) l (Level-sym w (pos (bits_of w b)) b (bits_level w b))) in
    let e = same_in_range Unsigned w (pos (bits_of w a)) (pos (bits_of w b)) (integer_in_range Unsigned w (bits_of w a) (bits_below w a)) (integer_in_range Unsigned w (bits_of w b) (bits_below w b)) m in
    cc

pub Level-lower : (w k : ℕ) (a b : ℤ) → w ≤ k → Level k a b → Level w a b
Level-lower w k a b small l =
    let exponent : k - w + w ≡ k = omega arith in
    let whole : 2 ^ k ≡ 2 ^ (k - w) * 2 ^ w = sym (ap (λ x. 2 ^ x) exponent) ∙ pow-add 2 (k - w) w in
    let first : l.left * 2 ^ k ≡ l.left * (2 ^ (k - w) * 2 ^ w) = ap (λ x. l.left * x) whole in
    let second : l.right * 2 ^ k ≡ l.right * (2 ^ (k - w) * 2 ^ w) = ap (λ x. l.right * x) whole in
    record { left = l.left * 2 ^ (k - w); right = l.right * 2 ^ (k - w); same = omega (arith, ints, l.same) }

pub Level-add : (w : ℕ) (a b c d : ℤ) → Level w a b → Level w c d → Level w (a +ℤ c) (b +ℤ d)
Level-add w a b c d l m = record { left = l.left + m.left; right = l.right + m.right; same = omega (arith, ints, l.same, m.same) }

pub Level-neg : (w : ℕ) (a b : ℤ) → Level w a b → Level w (neg_ℤ a) (neg_ℤ b)
Level-neg w a b l = record { left = l.right; right = l.left; same = omega (arith, ints, l.same) }

times_same : (w : ℕ) (a b c : ℤ) (j k : ℕ) → a +ℤ pos (j * 2 ^ w) ≡ b +ℤ pos (k * 2 ^ w)
    → a *ℤ c +ℤ pos ((j * up c + k * down c) * 2 ^ w) ≡ b *ℤ c +ℤ pos ((k * up c + j * down c) * 2 ^ w)
times_same w a b c j k e =
    let sum : up a + j * 2 ^ w + down b ≡ up b + k * 2 ^ w + down a = omega (arith, same_out, sum_is_lem) in
    let above = ap (λ x. x * up c) sum in
    let below = ap (λ x. x * down c) sum in
    omega (arith, same_in, sum_is_lem, product_is)

pub Level-times : (w : ℕ) (a b c : ℤ) → Level w a b → Level w (a *ℤ c) (b *ℤ c)
Level-times w a b c l = record { left = l.left * up c + l.right * down c; right = l.right * up c + l.left * down c; same = times_same w a b c l.left l.right l.same }

-- the word is level with its integer
pub word_level : (k x : ℕ) (a : ℤ) → x ≡ bits_of k a → Level k (pos x) a
word_level k x a e = rw e (bits_level k a)

-- a word's lowest bits
pub word_low : (w k x : ℕ) (a : ℤ) → w ≤ k → x ≡ bits_of k a → x % 2 ^ w ≡ bits_of w a
word_low w k x a small e = same_low w (pos x) a (Level-lower w k (pos x) a small (word_level k x a e))

pub Level-cut : (k n : ℕ) → Level k (pos (n % 2 ^ k)) (pos n)
Level-cut k n = bits_level k (pos n)

pub sum_low : (w k x y : ℕ) (a b : ℤ) → w ≤ k → x ≡ bits_of k a → y ≡ bits_of k b → (x + y) % 2 ^ k % 2 ^ w ≡ bits_of w (a +ℤ b)
sum_low w k x y a b small e f =
    let l = Level-trans k (pos ((x + y) % 2 ^ k)) (pos (x + y)) (a +ℤ b) (Level-cut k (x + y)) (Level-add k (pos x) a (pos y) b (word_level k x a e) (word_level k y b f)) in
    same_low w (pos ((x + y) % 2 ^ k)) (a +ℤ b) (Level-lower w k _ _ small l)

away : (k x y : ℕ) → y < 2 ^ k → Level k (pos (x + (2 ^ k - y))) (pos x -ℤ pos y)
away k x y below = record { left = 0; right = 1; same = omega (arith, ints) }

pub difference_low : (w k x y : ℕ) (a b : ℤ) → w ≤ k → x ≡ bits_of k a → y ≡ bits_of k b → (x + (2 ^ k - y)) % 2 ^ k % 2 ^ w ≡ bits_of w (a -ℤ b)
difference_low w k x y a b small e f =
    let below : y < 2 ^ k = rw f (bits_below k b) in
    let apart = Level-add k (pos x) a (neg_ℤ (pos y)) (neg_ℤ b) (word_level k x a e) (Level-neg k (pos y) b (word_level k y b f)) in
    let word = x + (2 ^ k - y) in
    let l = Level-trans k (pos (word % 2 ^ k)) (pos word) (a -ℤ b) (Level-cut k word) (Level-trans k (pos word) (pos x -ℤ pos y) (a -ℤ b) (away k x y below) apart) in
    same_low w (pos (word % 2 ^ k)) (a -ℤ b) (Level-lower w k _ _ small l)

pub negated_low : (w k y : ℕ) (b : ℤ) → w ≤ k → y ≡ bits_of k b → (0 + (2 ^ k - y)) % 2 ^ k % 2 ^ w ≡ bits_of w (neg_ℤ b)
negated_low w k y b small f = let nothing : pos 0 -ℤ b ≡ neg_ℤ b = omega (arith, ints) in difference_low w k 0 y (pos 0) b small (sym (zero-mod (2 ^ k))) f ∙ ap (bits_of w) nothing

Level-product : (k : ℕ) (a b c d : ℤ) → Level k a b → Level k c d → Level k (a *ℤ c) (b *ℤ d)
Level-product k a b c d l m =
    let second : Level k (c *ℤ b) (d *ℤ b) = Level-times k c d b m in
    Level-trans k (a *ℤ c) (b *ℤ c) (b *ℤ d) (Level-times k a b c l) (rw (*ℤ_comm b c, *ℤ_comm b d) second)

pub product_low : (w k x y : ℕ) (a b : ℤ) → w ≤ k → x ≡ bits_of k a → y ≡ bits_of k b → (x * y) % 2 ^ k % 2 ^ w ≡ bits_of w (a *ℤ b)
product_low w k x y a b small e f =
    let l = Level-trans k (pos ((x * y) % 2 ^ k)) (pos (x * y)) (a *ℤ b) (Level-cut k (x * y)) (Level-product k (pos x) a (pos y) b (word_level k x a e) (word_level k y b f)) in
    same_low w (pos ((x * y) % 2 ^ k)) (a *ℤ b) (Level-lower w k _ _ small l)

-- a shift to the left that stays in the word, and one that leaves it
pub raised_low : (w k n by : ℕ) → w ≤ k → (n * 2 ^ by) % 2 ^ k % 2 ^ w ≡ (n * 2 ^ by) % 2 ^ w
raised_low w k n by small = word_low w k ((n * 2 ^ by) % 2 ^ k) (pos (n * 2 ^ by)) small refl

gone_level : (w n by : ℕ) → w ≤ by → Level w (pos 0) (pos (n * 2 ^ by))
gone_level w n by most =
    let exponent : by - w + w ≡ by = omega arith in
    let whole : 2 ^ by ≡ 2 ^ (by - w) * 2 ^ w = sym (ap (λ x. 2 ^ x) exponent) ∙ pow-add 2 (by - w) w in
    let first : n * 2 ^ by ≡ n * (2 ^ (by - w) * 2 ^ w) = ap (λ x. n * x) whole in
    record { left = n * 2 ^ (by - w); right = 0; same = omega (arith, ints) }

pub gone_low : (w n by : ℕ) → w ≤ by → 0 % 2 ^ w ≡ (n * 2 ^ by) % 2 ^ w
gone_low w n by most = same_low w (pos 0) (pos (n * 2 ^ by)) (gone_level w n by most)

-- a word times a power of two
pub shifted_low : (w k x p : ℕ) (a : ℤ) → w ≤ k → x ≡ bits_of k a → (x * p) % 2 ^ w ≡ bits_of w (a *ℤ pos p)
shifted_low w k x p a small e = same_low w (pos (x * p)) (a *ℤ pos p) (Level-lower w k _ _ small (Level-times k (pos x) a (pos p) (word_level k x a e)))
