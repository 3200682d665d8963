-- A text is read as one number at most.
use Rattle.std.proofs.Common.{◌≡◌, ℕ, ◌<◌, Bool, true, false, List, ◌∷◌, Result, Ok, Err, IfOk, IfErr, refl, ap, ap₂, sym, ◌∙◌, arith}
use Rattle.std.specs.Char.{digit_value}
use Rattle.bit_words.specs.declared.number.Base.{Base}
use Rattle.bit_words.specs.declared.number.Base.TheVariants.{Binary, Octal, Decimal, Hexadecimal}
use Rattle.bit_words.specs.declared.number.Number.{Number}
use Rattle.bit_words.specs.declared.number.NumberFault.{NumberFault}
use Rattle.bit_words.specs.declared.number.NumberFault.TheVariants.{NotNumber, Over}
use Rattle.bit_words.specs.Numbers.{letter, WritesDigits, IsMagnitude, plain, prefixed, IsNumber, unsigned, minus, AnswersMagnitude, AnswersNumber}
use Rattle.bit_words.proofs.Digits.{digits_once, answers_once}

letter_no_digit : (base : Base) → ¬ (digit_value (letter base) < 10)
letter_no_digit Binary h = omega arith
letter_no_digit Octal h = omega arith
letter_no_digit Decimal h = omega arith
letter_no_digit Hexadecimal h = omega arith

-- a base's letter tells the base
pub letter_same : (a b : Base) → letter a ≡ letter b → a ≡ b
letter_same Binary Binary e = refl
letter_same Binary Octal e = absurd (omega arith)
letter_same Binary Decimal e = absurd (omega arith)
letter_same Binary Hexadecimal e = absurd (omega arith)
letter_same Octal Binary e = absurd (omega arith)
letter_same Octal Octal e = refl
letter_same Octal Decimal e = absurd (omega arith)
letter_same Octal Hexadecimal e = absurd (omega arith)
letter_same Decimal Binary e = absurd (omega arith)
letter_same Decimal Octal e = absurd (omega arith)
letter_same Decimal Decimal e = refl
letter_same Decimal Hexadecimal e = absurd (omega arith)
letter_same Hexadecimal Binary e = absurd (omega arith)
letter_same Hexadecimal Octal e = absurd (omega arith)
letter_same Hexadecimal Decimal e = absurd (omega arith)
letter_same Hexadecimal Hexadecimal e = refl

-- a prefix isn't decimal digits
no_plain : (bytes : List ℕ) (base : Base) (digits : List ℕ) (m : ℕ) → bytes ≡ 48 ∷ letter base ∷ digits → ¬ (WritesDigits Decimal bytes m)
no_plain bytes base digits m e w = letter_no_digit base ((rw e at w.digits).1.0)

prefixed_once : (base other : Base) (digits more : List ℕ) (m n : ℕ) → base ≡ other → digits ≡ more → WritesDigits base digits m → WritesDigits other more n → m ≡ n
prefixed_once base other digits more m n e f v w = digits_once other more m n (rw (← e, ← f) v) w

-- what stands behind a prefix is all that its magnitudes write
pub prefixed_is : (bytes : List ℕ) (base : Base) (digits : List ℕ) → bytes ≡ 48 ∷ letter base ∷ digits → (m : ℕ) → IsMagnitude bytes m → WritesDigits base digits m
prefixed_is bytes base digits e m (plain w) = absurd (no_plain bytes base digits m e w)
prefixed_is bytes base digits e m (prefixed other more f w) =
    let both : 48 ∷ letter base ∷ digits ≡ 48 ∷ letter other ∷ more = sym e ∙ f in
    let letters : letter base ≡ letter other = cc in
    let rests : digits ≡ more = cc in
    rw (letter_same base other letters, rests) w

pub plain_is : (bytes : List ℕ) → ((base : Base) (digits : List ℕ) → ¬ (bytes ≡ 48 ∷ letter base ∷ digits)) → (m : ℕ) → IsMagnitude bytes m → WritesDigits Decimal bytes m
plain_is bytes none m (plain w) = w
plain_is bytes none m (prefixed base digits e w) = absurd (none base digits e)

pub magnitude_once : (bytes : List ℕ) (m n : ℕ) → IsMagnitude bytes m → IsMagnitude bytes n → m ≡ n
magnitude_once bytes m n (plain v) (plain w) = digits_once Decimal bytes m n v w
magnitude_once bytes m n (plain v) (prefixed base digits e w) = absurd (no_plain bytes base digits m e v)
magnitude_once bytes m n (prefixed base digits e v) other = digits_once base digits m n v (prefixed_is bytes base digits e n other)

-- one relation for another
pub answers_same : (P Q : ℕ → Type 0) → ((m : ℕ) → P m → Q m) → ((m : ℕ) → Q m → P m) → (r : Result ℕ NumberFault) → AnswersMagnitude P r → AnswersMagnitude Q r
answers_same P Q to from (Ok m) x = (to m x.0, x.1)
answers_same P Q to from (Err Over) x = (x.0, to x.0 x.1, x.2)
answers_same P Q to from (Err NotNumber) x = λ m q. x m (from m q)

pub prefixed_answer : (bytes : List ℕ) (base : Base) (digits : List ℕ) → bytes ≡ 48 ∷ letter base ∷ digits → (r : Result ℕ NumberFault)
    → AnswersMagnitude (WritesDigits base digits) r → AnswersMagnitude (IsMagnitude bytes) r
prefixed_answer bytes base digits e = answers_same (WritesDigits base digits) (IsMagnitude bytes) (λ m w. prefixed base digits e w) (prefixed_is bytes base digits e)

pub plain_answer : (bytes : List ℕ) → ((base : Base) (digits : List ℕ) → ¬ (bytes ≡ 48 ∷ letter base ∷ digits)) → (r : Result ℕ NumberFault)
    → AnswersMagnitude (WritesDigits Decimal bytes) r → AnswersMagnitude (IsMagnitude bytes) r
plain_answer bytes none = answers_same (WritesDigits Decimal bytes) (IsMagnitude bytes) (λ m w. plain w) (plain_is bytes none)

pub magnitude_answer_once : (bytes : List ℕ) (r other : Result ℕ NumberFault) → AnswersMagnitude (IsMagnitude bytes) r → AnswersMagnitude (IsMagnitude bytes) other → other ≡ r
magnitude_answer_once bytes = answers_once (IsMagnitude bytes) (magnitude_once bytes)

-- the sign of a text, and what stands behind it
pub record HasSign (bytes : List ℕ) (negative : Bool) (rest : List ℕ) : Type 0 where
  pub to : (m : ℕ) → IsMagnitude rest m → IsNumber bytes negative m
  pub from : (sign : Bool) (m : ℕ) → IsNumber bytes sign m → (sign ≡ negative) × IsMagnitude rest m

heads : (a b : ℕ) (xs ys : List ℕ) → a ∷ xs ≡ b ∷ ys → a ≡ b
heads a b xs ys e = cc

minus_no_magnitude : (bytes rest : List ℕ) (m : ℕ) → bytes ≡ 45 ∷ rest → ¬ (IsMagnitude bytes m)
minus_no_magnitude bytes rest m e (plain w) = let h = rw e at w.digits in omega (arith, h.0)
minus_no_magnitude bytes rest m e (prefixed base digits f w) = omega (arith, heads 45 48 rest (letter base ∷ digits) (sym e ∙ f))

minus_from : (bytes rest : List ℕ) → bytes ≡ 45 ∷ rest → (sign : Bool) (m : ℕ) → IsNumber bytes sign m → (sign ≡ true) × IsMagnitude rest m
minus_from bytes rest e sign m (unsigned s w) = absurd (minus_no_magnitude bytes rest m e w)
minus_from bytes rest e sign m (minus other s f w) =
    let both : 45 ∷ rest ≡ 45 ∷ other = sym e ∙ f in
    let same : rest ≡ other = cc in
    (s, rw same w)

pub minus_sign : (bytes rest : List ℕ) → bytes ≡ 45 ∷ rest → HasSign bytes true rest
minus_sign bytes rest e = record { to = λ m w. minus rest refl e w; from = minus_from bytes rest e }

plain_from : (bytes : List ℕ) → ((rest : List ℕ) → ¬ (bytes ≡ 45 ∷ rest)) → (sign : Bool) (m : ℕ) → IsNumber bytes sign m → (sign ≡ false) × IsMagnitude bytes m
plain_from bytes none sign m (unsigned s w) = (s, w)
plain_from bytes none sign m (minus rest s f w) = absurd (none rest f)

pub no_sign : (bytes : List ℕ) → ((rest : List ℕ) → ¬ (bytes ≡ 45 ∷ rest)) → HasSign bytes false bytes
no_sign bytes none = record { to = λ m w. unsigned refl w; from = plain_from bytes none }

-- the answer for what stands behind the sign, with the sign
pub number_answer : (bytes rest : List ℕ) (negative : Bool) (r : Result ℕ NumberFault) (s : Result Number NumberFault) → HasSign bytes negative rest
    → AnswersMagnitude (IsMagnitude rest) r → IfOk r (λ m. s ≡ Ok (record { negative = negative; magnitude = m })) → IfErr r (λ fault. s ≡ Err fault)
    → AnswersNumber bytes s
number_answer bytes rest negative (Ok m) s sign x e f = rw e (sign.to m x.0, x.1)
number_answer bytes rest negative (Err NotNumber) s sign x e f = rw f (λ other m w. x m (sign.from other m w).1)
number_answer bytes rest negative (Err Over) s sign x e f = rw f (negative, x.0, sign.to x.0 x.1, x.2)

pub sign_once : (bytes : List ℕ) (a b : Bool) (m n : ℕ) → IsNumber bytes a m → IsNumber bytes b n → a ≡ b
sign_once bytes a b m n (unsigned s v) (unsigned t w) = s ∙ sym t
sign_once bytes a b m n (unsigned s v) (minus rest t e w) = absurd (minus_no_magnitude bytes rest m e v)
sign_once bytes a b m n (minus rest s e v) (unsigned t w) = absurd (minus_no_magnitude bytes rest n e w)
sign_once bytes a b m n (minus rest s e v) (minus more t f w) = s ∙ sym t

pub number_once : (bytes : List ℕ) (a b : Bool) (m n : ℕ) → IsNumber bytes a m → IsNumber bytes b n → m ≡ n
number_once bytes a b m n (unsigned s v) (unsigned t w) = magnitude_once bytes m n v w
number_once bytes a b m n (unsigned s v) (minus rest t e w) = absurd (minus_no_magnitude bytes rest m e v)
number_once bytes a b m n (minus rest s e v) other = magnitude_once rest m n v (minus_from bytes rest e b n other).1

same_number : (a b : Number) → a.negative ≡ b.negative → a.magnitude ≡ b.magnitude → a ≡ b
same_number a b e f = ap₂ (λ (x : Bool) (y : ℕ). let n : Number = record { negative = x; magnitude = y } in n) e f

pub number_answer_once : (bytes : List ℕ) (r other : Result Number NumberFault) → AnswersNumber bytes r → AnswersNumber bytes other → other ≡ r
number_answer_once bytes (Ok a) (Ok b) x y = ap Ok (same_number b a (sign_once bytes _ _ _ _ y.0 x.0) (number_once bytes _ _ _ _ y.0 x.0))
number_answer_once bytes (Ok a) (Err Over) x y = let e : a.magnitude ≡ y.1 = number_once bytes _ _ _ _ x.0 y.2 in absurd (omega (arith, x.1, y.3))
number_answer_once bytes (Ok a) (Err NotNumber) x y = absurd (y _ _ x.0)
number_answer_once bytes (Err Over) (Ok b) x y = let e : b.magnitude ≡ x.1 = number_once bytes _ _ _ _ y.0 x.2 in absurd (omega (arith, y.1, x.3))
number_answer_once bytes (Err Over) (Err Over) x y = refl
number_answer_once bytes (Err Over) (Err NotNumber) x y = absurd (y _ _ x.2)
number_answer_once bytes (Err NotNumber) (Ok b) x y = absurd (x _ _ y.0)
number_answer_once bytes (Err NotNumber) (Err Over) x y = absurd (x _ _ y.2)
number_answer_once bytes (Err NotNumber) (Err NotNumber) x y = refl
