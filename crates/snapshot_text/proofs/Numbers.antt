-- Number words have no line feed and no space, and decimal texts are number words.
use Rattle.std.proofs.Common.{lit<, ◌≡◌, ℕ, zero, suc, ◌+◌, ◌*◌, ◌^◌, ◌<◌, ◌≤◌, Bool, true, false, List, [], ◌∷◌, length, refl, sym, ◌∙◌, subst, arith, pos, negsuc, ℤ}
use Rattle.std.specs.Prelude.{decimal, unsigned_abs}
use Rattle.std.specs.Char.{digit_value}
use Rattle.std.specs.Str.Parse.{AllDigits, digits_value, digits_value_after}
use Rattle.std.proofs.lemmas.Fmt.{decimal_is_IsNumeral_wide}
use Rattle.std.proofs.Math.Nat.{pow-suc, pow-zero, pow-le-pow_right}
use Rattle.std.proofs.lemmas.Int.{ints}
use Rattle.bit_words.specs.declared.number.Base.{Base}
use Rattle.bit_words.specs.declared.number.Base.TheVariants.{Binary, Octal, Decimal, Hexadecimal}
use Rattle.bit_words.specs.declared.number.Number.{Number}
use Rattle.bit_words.specs.Numbers.{radix, letter, value_of_digits, WritesDigits, IsMagnitude, plain, prefixed, IsNumber, unsigned, minus, integer_of_number}
use Rattle.bit_words.specs.declared.value.Kind.{Kind}
use Rattle.bit_words.specs.declared.value.Kind.TheVariants.{Unsigned, Signed}
use Rattle.bit_words.specs.Values.{InRange}
use Rattle.bit_words.specs.Decimals.{decimal_text}
use Rattle.snapshot_text.specs.Steps.{Lacks}

-- a byte that stands in no number word
record IsMark (b : ℕ) : Type 0 where
  no_digit : 16 ≤ digit_value b
  no_letter : (base : Base) → letter base ≡ b → ⊥
  no_zero : 48 ≡ b → ⊥
  no_minus : 45 ≡ b → ⊥

feed_mark : IsMark 10
feed_mark = record { no_digit = omega arith; no_letter = by; no_zero = λ e. omega (arith, e); no_minus = λ e. omega (arith, e) }
  where
    by : (base : Base) → letter base ≡ 10 → ⊥
    by Binary e = absurd (omega (arith, e))
    by Octal e = absurd (omega (arith, e))
    by Decimal e = absurd (omega (arith, e))
    by Hexadecimal e = absurd (omega (arith, e))

space_mark : IsMark 32
space_mark = record { no_digit = omega arith; no_letter = by; no_zero = λ e. omega (arith, e); no_minus = λ e. omega (arith, e) }
  where
    by : (base : Base) → letter base ≡ 32 → ⊥
    by Binary e = absurd (omega (arith, e))
    by Octal e = absurd (omega (arith, e))
    by Decimal e = absurd (omega (arith, e))
    by Hexadecimal e = absurd (omega (arith, e))

radix_small : (base : Base) → radix base ≤ 16
radix_small Binary = omega arith
radix_small Octal = omega arith
radix_small Decimal = omega arith
radix_small Hexadecimal = omega arith

module _ (b : ℕ) (mark : IsMark b) where
  digits_lack : (r : ℕ) (ds : List ℕ) → r ≤ 16 → AllDigits r ds → Lacks b ds
  digits_lack r [] le h = tt
  digits_lack r (d ∷ ds) le h = ((λ e. let here : digit_value b < r = subst (λ x. digit_value x < r) e h.0 in let far = mark.no_digit in omega (arith, here, far, le)), digits_lack r ds le h.1)

  magnitude_lacks : (bytes : List ℕ) (m : ℕ) → IsMagnitude bytes m → Lacks b bytes
  magnitude_lacks bytes m (plain w) = digits_lack 10 bytes (omega arith) w.digits
  magnitude_lacks bytes m (prefixed base digits e w) = subst (Lacks b) (sym e) (mark.no_zero, (mark.no_letter base, digits_lack (radix base) digits (radix_small base) w.digits))

  number_lacks : (bytes : List ℕ) (negative : Bool) (m : ℕ) → IsNumber bytes negative m → Lacks b bytes
  number_lacks bytes negative m (unsigned e w) = magnitude_lacks bytes m w
  number_lacks bytes negative m (minus rest e f w) = subst (Lacks b) (sym f) (mark.no_minus, magnitude_lacks rest m w)

-- number words have no line feed and no space, and neither have digits
pub number_plain : (bytes : List ℕ) (negative : Bool) (m : ℕ) → IsNumber bytes negative m → Lacks 10 bytes
number_plain = number_lacks 10 feed_mark

pub number_word : (bytes : List ℕ) (negative : Bool) (m : ℕ) → IsNumber bytes negative m → Lacks 32 bytes
number_word = number_lacks 32 space_mark

pub digits_plain : (r : ℕ) (ds : List ℕ) → r ≤ 16 → AllDigits r ds → Lacks 10 ds
digits_plain = digits_lack 10 feed_mark

pub digits_word : (r : ℕ) (ds : List ℕ) → r ≤ 16 → AllDigits r ds → Lacks 32 ds
digits_word = digits_lack 32 space_mark

one_more : (n r d p v : ℕ) (q : ℕ) → q ≡ p * r → (n * r + d) * p + v ≡ n * q + (d * p + v)
one_more n r d p v q e = rw e (omega arith)

after_is : (n : ℕ) (ds : List ℕ) → digits_value_after 10 n ds ≡ n * 10 ^ length ds + value_of_digits Decimal ds
after_is n [] = let one : 10 ^ 0 ≡ 1 = pow-zero 10 in rw one (omega arith)
after_is n (d ∷ ds) = after_is (n * 10 + digit_value d) ds ∙ one_more n 10 (digit_value d) (10 ^ length ds) (value_of_digits Decimal ds) (10 ^ suc (length ds)) (pow-suc 10 (length ds))

-- digits that write a number above 0 are some; 0 is written by one digit
some_digits : (n : ℕ) (ds : List ℕ) → n ≡ value_of_digits Decimal ds → 0 < n → 0 < length ds
some_digits n [] e lt = absurd (omega (arith, e, lt))
some_digits n (d ∷ ds) e lt = omega arith

pub decimal_writes : (n : ℕ) → n < 10 ^ 64 → WritesDigits Decimal (decimal n) n
decimal_writes n lt =
    let is = decimal_is_IsNumeral_wide n lt in
    let same : digits_value 10 (decimal n) ≡ value_of_digits Decimal (decimal n) = after_is 0 (decimal n) ∙ omega arith in
    record { some = is.0.0; digits = is.0.1; value = sym is.1 ∙ same }

-- the number of an integer
pub number_of : ℤ → Number
number_of (pos n) = record { negative = false; magnitude = n }
number_of (negsuc n) = record { negative = true; magnitude = suc n }

pub text_writes : (v : ℤ) → unsigned_abs v < 10 ^ 64 → (number : Number) × IsNumber (decimal_text v) number.negative number.magnitude × (integer_of_number number ≡ v)
text_writes (pos n) lt = (record { negative = false; magnitude = n }, unsigned refl (plain (decimal_writes n lt)), refl)
text_writes (negsuc n) lt = (record { negative = true; magnitude = suc n }, minus (decimal (suc n)) refl refl (plain (decimal_writes (suc n) lt)), refl)

-- the integers of leaves have few digits
chained : (n a b c : ℕ) → n < a → a ≤ b → b < c → n < c
chained n a b c h k l = omega (arith, h, k, l)

wide_power : 2 ^ 128 < 10 ^ 64
wide_power = lit< tt

pub abs_small : (kind : Kind) (width : ℕ) (v : ℤ) → width ≤ 128 → InRange kind width v → unsigned_abs v < 10 ^ 64
abs_small kind zero v narrow h = subst (λ n. unsigned_abs n < 10 ^ 64) (sym h) (lit< tt)
abs_small Unsigned (suc w) (pos n) narrow h =
    let lt : n < 2 ^ suc w = omega (arith, ints, h.1) in
    let most : 2 ^ suc w ≤ 2 ^ 128 = pow-le-pow_right (omega arith) narrow in
    chained n (2 ^ suc w) (2 ^ 128) (10 ^ 64) lt most wide_power
abs_small Unsigned (suc w) (negsuc n) narrow h = absurd (omega (arith, ints, h.0))
abs_small Signed (suc w) (pos n) narrow h =
    let lt : n < 2 ^ w = omega (arith, ints, h.1) in
    let less : w ≤ 128 = omega (arith, narrow) in
    let most : 2 ^ w ≤ 2 ^ 128 = pow-le-pow_right (omega arith) less in
    chained n (2 ^ w) (2 ^ 128) (10 ^ 64) lt most wide_power
abs_small Signed (suc w) (negsuc n) narrow h =
    let lt : n < 2 ^ w = omega (arith, ints, h.0) in
    let less : w ≤ 128 = omega (arith, narrow) in
    let below : suc n < 2 ^ w + 1 = omega (arith, lt) in
    let most : 2 ^ w ≤ 2 ^ 128 = pow-le-pow_right (omega arith) less in
    let more : 2 ^ w + 1 ≤ 2 ^ 128 + 1 = omega (arith, most) in
    chained (suc n) (2 ^ w + 1) (2 ^ 128 + 1) (10 ^ 64) below more (lit< tt)
