-- Values as integers.
use Rattle.std.specs.Prelude.{◌≡◌, ℕ, zero, suc, ◌-◌, ◌*◌, ◌%◌, ◌^◌, nat_lt, if◌then◌else◌, ℤ, pos, negsuc, neg_ℤ, ◌-ℤ◌, ◌*ℤ◌, ◌≤ℤ◌, ◌<ℤ◌}
use Rattle.bit_words.specs.declared.value.Kind.{Kind}
use Rattle.bit_words.specs.declared.value.Kind.TheVariants.{Unsigned, Signed}
use Rattle.bit_words.specs.declared.value.Value.{Value}

-- the integer that bits of a width mean, plain or in two's complement
abbrev pub integer : Kind → ℕ → ℕ → ℤ
integer Unsigned width bits = pos bits
integer Signed width bits = if nat_lt (2 * bits) (2 ^ width) then pos bits else negsuc (2 ^ width - 1 - bits)

-- the integer that a value means
abbrev pub integer_of : Value → ℤ
integer_of value = integer value.kind value.width value.bits

-- the integers that a kind and a width can hold: only 0 at width 0
abbrev pub InRange : Kind → ℕ → ℤ → Type 0
InRange kind zero n = n ≡ pos 0
InRange Unsigned (suc w) n = (pos 0 ≤ℤ n) × (n <ℤ pos (2 ^ suc w))
InRange Signed (suc w) n = (neg_ℤ (pos (2 ^ w)) ≤ℤ n) × (n <ℤ pos (2 ^ w))

-- two integers differ by a multiple of 2 to the power of the width
abbrev pub Congruent : ℕ → ℤ → ℤ → Type 0
Congruent width a b = (k : ℤ) × (a -ℤ b ≡ k *ℤ pos (2 ^ width))

-- the bits of this width that are congruent to an integer
abbrev pub bits_of : ℕ → ℤ → ℕ
bits_of width (pos n) = n % 2 ^ width
bits_of width (negsuc n) = 2 ^ width - 1 - n % 2 ^ width

-- the integer of the kind's range that is congruent to an integer
abbrev pub fit_of : Kind → ℕ → ℤ → ℤ
fit_of kind width n = integer kind width (bits_of width n)
