-- Numbers as texts write them: an optional minus, then decimal digits, or a 0 with a base's letter and digits of that base.
use Rattle.std.specs.Prelude.{◌≡◌, ℕ, ◌+◌, ◌*◌, ◌^◌, ◌<◌, ◌≤◌, Bool, true, false, if◌then◌else◌, List, [], ◌∷◌, length, ℤ, pos, neg_ℤ, Option, Some, None, Result, Ok, Err}
use Rattle.std.specs.Char.{digit_value}
use Rattle.std.specs.Str.Parse.{AllDigits}
use Rattle.bit_words.specs.declared.number.Base.{Base}
use Rattle.bit_words.specs.declared.number.Base.TheVariants.{Binary, Octal, Decimal, Hexadecimal}
use Rattle.bit_words.specs.declared.number.Number.{Number}
use Rattle.bit_words.specs.declared.number.NumberFault.{NumberFault}
use Rattle.bit_words.specs.declared.number.NumberFault.TheVariants.{NotNumber, Over}

-- how many digits a base has
abbrev pub radix : Base → ℕ
radix Binary = 2
radix Octal = 8
radix Decimal = 10
radix Hexadecimal = 16

-- the letter that names a base: b, o, d or h
abbrev pub letter : Base → ℕ
letter Binary = 98
letter Octal = 111
letter Decimal = 100
letter Hexadecimal = 104

-- the number that digits write: each counts the power of the base that belongs to its place
abbrev pub value_of_digits : Base → List ℕ → ℕ
value_of_digits base [] = 0
value_of_digits base (d ∷ ds) = digit_value d * radix base ^ length ds + value_of_digits base ds

-- the bytes are digits of the base, at least one, and write this number
pub record WritesDigits (base : Base) (bytes : List ℕ) (magnitude : ℕ) : Type 0 where
  pub some : 0 < length bytes
  pub digits : AllDigits (radix base) bytes
  pub value : magnitude ≡ value_of_digits base bytes

-- the bytes are a number without a sign
pub data IsMagnitude (bytes : List ℕ) (magnitude : ℕ) : Type 0 where
  plain : WritesDigits Decimal bytes magnitude → IsMagnitude bytes magnitude
  prefixed : (base : Base) (digits : List ℕ) → bytes ≡ 48 ∷ letter base ∷ digits → WritesDigits base digits magnitude → IsMagnitude bytes magnitude

-- the bytes are a number, with a minus or without
pub data IsNumber (bytes : List ℕ) (negative : Bool) (magnitude : ℕ) : Type 0 where
  unsigned : negative ≡ false → IsMagnitude bytes magnitude → IsNumber bytes negative magnitude
  minus : (rest : List ℕ) → negative ≡ true → bytes ≡ 45 ∷ rest → IsMagnitude rest magnitude → IsNumber bytes negative magnitude

-- what stands for a number: itself below 2^128, and nothing from there on
abbrev pub Holds : Option ℕ → ℕ → Type 0
Holds (Some v) n = v ≡ n
Holds None n = 2 ^ 128 ≤ n

-- what is answered for a text whose magnitudes these are
abbrev pub AnswersMagnitude : (ℕ → Type 0) → Result ℕ NumberFault → Type 0
AnswersMagnitude P (Ok magnitude) = P magnitude × (magnitude < 2 ^ 128)
AnswersMagnitude P (Err Over) = (magnitude : ℕ) × P magnitude × (2 ^ 128 ≤ magnitude)
AnswersMagnitude P (Err NotNumber) = (magnitude : ℕ) → ¬ (P magnitude)

-- what is answered for a number word
abbrev pub AnswersNumber : List ℕ → Result Number NumberFault → Type 0
AnswersNumber bytes (Ok n) = IsNumber bytes n.negative n.magnitude × (n.magnitude < 2 ^ 128)
AnswersNumber bytes (Err Over) = (negative : Bool) × (magnitude : ℕ) × IsNumber bytes negative magnitude × (2 ^ 128 ≤ magnitude)
AnswersNumber bytes (Err NotNumber) = (negative : Bool) (magnitude : ℕ) → ¬ (IsNumber bytes negative magnitude)

-- the integer that a number means
abbrev pub integer_of_number : Number → ℤ
integer_of_number n = if n.negative then neg_ℤ (pos n.magnitude) else pos n.magnitude
