use Rattle.std.proofs.Common.{◌≡◌, ℕ, suc, ◌-◌, ◌^◌, ◌%◌, ◌<◌, ◌≤◌, true, arith}
use Rattle.bit_words.specs.declared.number.Number.{Number}
use Rattle.bit_words.specs.Values.{bits_of}
use Rattle.bit_words.specs.Numbers.{integer_of_number}
use Rattle.bit_words.proofs.Complement.{neg_mod}
use Rattle.plain_values.proofs.literals.low_bits.Goals as goal

negative_bits : (n : Number) (less width : ℕ) → n.negative ≡ true → n.magnitude ≡ suc less → bits_of width (integer_of_number n) ≡ 2 ^ width - 1 - less % 2 ^ width
negative_bits n less width minus size = rw (minus, size)

below : (less m : ℕ) → (1 ≤ m) × (less ≡ m - 1) → m < 2 ^ 128 → less < 2 ^ 128
below less m e fits = omega (arith, e.0, e.1)

one_more : (less m : ℕ) → (1 ≤ m) × (less ≡ m - 1) → m ≡ suc less
one_more less m e = omega (arith, e.0, e.1)

pub returns-in-Some : goal.returns-in-Some
returns-in-Some c = λ width small.
    let e = c.in-Some.ensures {u = tt} in
    let bits = negative_bits (record { negative = c.args.negative; magnitude = c.args.magnitude }) c.in-Some.less width c.if-negative.true (one_more _ _ e) in
    rw bits (neg_mod c.in-Some.less width small (below _ _ e c.ranges.magnitude.fits))
