-- Two readings of one piece agree: numbers, and the names of memory ports' fields.
use Rattle.std.proofs.Common.{◌≡◌, ℕ, ◌-◌, ◌<◌, Bool, true, false, List, [], ◌∷◌, ◌++◌, length, take, if◌then◌else◌, ◌==◌, refl, sym, ap, ◌∙◌, subst, arith, length-append, codes}
use Rattle.std.proofs.lemmas.Grind.{common_steps}
use Rattle.std.specs.Char.{digit_value}
use Rattle.std.specs.Str.Parse.{AllDigits}
use Rattle.std.proofs.lemmas.List.{take-append-le}
use Rattle.bit_words.specs.declared.number.Base.{Base}
use Rattle.bit_words.specs.declared.number.Base.TheVariants.{Binary, Octal, Decimal, Hexadecimal}
use Rattle.bit_words.specs.declared.number.Number.{Number}
use Rattle.bit_words.specs.Numbers.{radix, letter, value_of_digits, WritesDigits, IsMagnitude, plain, prefixed}
use Rattle.fir_tree.specs.Numbered.{IsDistinct}
use Rattle.fir_tree.proofs.Distinct.{no_names, one_more_name}
use Rattle.fir_grammar.specs.Grammar.{IsQuotedNumber, quoted, quoted_minus, field_names}

-- numbers

abbrev base_of : ℕ → Base
base_of l = if l == 98 then Binary else if l == 111 then Octal else if l == 100 then Decimal else Hexadecimal

base_of-letter : (base : Base) → base_of (letter base) ≡ base
base_of-letter Binary = refl
base_of-letter Octal = refl
base_of-letter Decimal = refl
base_of-letter Hexadecimal = refl

letter_no_digit : (base : Base) → digit_value (letter base) < 10 → ⊥
letter_no_digit Binary h = omega arith
letter_no_digit Octal h = omega arith
letter_no_digit Decimal h = omega arith
letter_no_digit Hexadecimal h = omega arith

abbrev prefixed_value : List ℕ → ℕ
prefixed_value (z ∷ l ∷ digits) = value_of_digits (base_of l) digits
prefixed_value _ = 0

prefixed_is : (base : Base) (digits bytes : List ℕ) (m : ℕ) → bytes ≡ 48 ∷ letter base ∷ digits → WritesDigits base digits m → m ≡ prefixed_value bytes
prefixed_is base digits bytes m e w = w.value ∙ (ap (λ (b : Base). value_of_digits b digits) (sym (base_of-letter base)) ∙ ap prefixed_value (sym e))

not_both : (base : Base) (digits bytes : List ℕ) (m : ℕ) → bytes ≡ 48 ∷ letter base ∷ digits → WritesDigits Decimal bytes m → ⊥
not_both base digits bytes m e w = letter_no_digit base (subst (λ (b : List ℕ). AllDigits 10 b) e w.digits).1.0

pub magnitudes_agree : (bytes : List ℕ) (m n : ℕ) → IsMagnitude bytes m → IsMagnitude bytes n → m ≡ n
magnitudes_agree bytes m n (plain a) (plain b) = a.value ∙ sym b.value
magnitudes_agree bytes m n (plain a) (prefixed base digits e w) = absurd (not_both base digits bytes m e a)
magnitudes_agree bytes m n (prefixed base digits e w) (plain b) = absurd (not_both base digits bytes n e b)
magnitudes_agree bytes m n (prefixed base digits e w) (prefixed other more e' w') = prefixed_is base digits bytes m e w ∙ sym (prefixed_is other more bytes n e' w')

-- strings of quoted number form

abbrev without_end : List ℕ → List ℕ
without_end xs = take (length xs - 1) xs

without_end-append : (xs : List ℕ) (x : ℕ) → without_end (xs ++ x ∷ []) ≡ xs
without_end-append xs x = grind (arith, common_steps, length-append, take-append-le)

abbrev signed_value : Base → List ℕ → Bool × ℕ
signed_value base [] = (false, 0)
signed_value base (c ∷ rest) = if c == 45 then (true, value_of_digits base (without_end rest)) else (false, value_of_digits base (without_end (c ∷ rest)))

abbrev quoted_value : List ℕ → Bool × ℕ
quoted_value (q ∷ l ∷ rest) = signed_value (base_of l) rest
quoted_value _ = (false, 0)

minus_no_digit : (base : Base) → digit_value 45 < radix base → ⊥
minus_no_digit Binary h = omega arith
minus_no_digit Octal h = omega arith
minus_no_digit Decimal h = omega arith
minus_no_digit Hexadecimal h = omega arith

digit_no_minus : (base : Base) (c : ℕ) → digit_value c < radix base → (c == 45) ≡ false
digit_no_minus base c h = by (c == 45) refl
  where
    by : (b : Bool) → (c == 45) ≡ b → (c == 45) ≡ false
    by true e = let same : c ≡ 45 = grind arith in absurd (minus_no_digit base (subst (λ (x : ℕ). digit_value x < radix base) same h))
    by false e = e

plain_signed : (base : Base) (digits : List ℕ) (m : ℕ) → WritesDigits base digits m → (false, m) ≡ signed_value base (digits ++ 34 ∷ [])
plain_signed base [] m w = absurd (omega (arith, w.some))
plain_signed base (c ∷ cs) m w =
    let other : (c == 45) ≡ false = digit_no_minus base c w.digits.0 in
    let same : without_end (c ∷ (cs ++ 34 ∷ [])) ≡ c ∷ cs = without_end-append (c ∷ cs) 34 in
    rw (other, same) (ap (λ (n : ℕ). (false, n)) w.value)

plain_quoted : (base : Base) (digits bytes : List ℕ) (m : ℕ) → bytes ≡ 34 ∷ letter base ∷ (digits ++ 34 ∷ []) → WritesDigits base digits m → (false, m) ≡ quoted_value bytes
plain_quoted base digits bytes m e w =
    plain_signed base digits m w ∙ (ap (λ (b : Base). signed_value b (digits ++ 34 ∷ [])) (sym (base_of-letter base)) ∙ ap quoted_value (sym e))

minus_quoted : (base : Base) (digits bytes : List ℕ) (m : ℕ) → bytes ≡ 34 ∷ letter base ∷ 45 ∷ (digits ++ 34 ∷ []) → WritesDigits base digits m → (true, m) ≡ quoted_value bytes
minus_quoted base digits bytes m e w =
    let first : (true, m) ≡ signed_value base (45 ∷ (digits ++ 34 ∷ [])) = rw (without_end-append digits 34) (ap (λ (n : ℕ). (true, n)) w.value) in
    first ∙ (ap (λ (b : Base). signed_value b (45 ∷ (digits ++ 34 ∷ []))) (sym (base_of-letter base)) ∙ ap quoted_value (sym e))

quoted_is : (bytes : List ℕ) (s : Bool) (m : ℕ) → IsQuotedNumber bytes s m → (s, m) ≡ quoted_value bytes
quoted_is bytes s m (quoted base digits other sign e w) = rw sign (plain_quoted base digits bytes m e w)
quoted_is bytes s m (quoted_minus base digits other sign e w) = rw sign (minus_quoted base digits bytes m e w)

abbrev number_from : Bool × ℕ → Number
number_from p = record { negative = p.0; magnitude = p.1 }

pub quoted_agree : (bytes : List ℕ) (x y : Number) → IsQuotedNumber bytes x.negative x.magnitude → IsQuotedNumber bytes y.negative y.magnitude → x ≡ y
quoted_agree bytes x y a b = ap number_from (quoted_is bytes x.negative x.magnitude a ∙ sym (quoted_is bytes y.negative y.magnitude b))

-- names

-- the fields of memory ports are nine different texts
pub fields_distinct : IsDistinct field_names
fields_distinct =
    one_more_name _ (codes "wmask") (one_more_name _ (codes "wdata") (one_more_name _ (codes "wmode") (one_more_name _ (codes "rdata") (one_more_name _ (codes "mask")
    (one_more_name _ (codes "data") (one_more_name _ (codes "clk") (one_more_name _ (codes "en") (one_more_name [] (codes "addr") no_names refl) refl) refl) refl) refl) refl) refl) refl) refl
