-- Digits and the numbers that they write.
use Rattle.std.proofs.Common.{◌≡◌, ℕ, zero, suc, ◌+◌, ◌*◌, ◌^◌, ◌<◌, List, [], ◌∷◌, ◌++◌, length, length-append, take, get_or, Option, Result, Ok, Err, refl, ap, sym, ◌∙◌, arith}
use Rattle.std.proofs.lemmas.List.{take_more}
use Rattle.std.proofs.lemmas.Int.Digits.{digits_more}
use Rattle.std.proofs.Math.Nat.{pow-suc, pow-zero}
use Rattle.std.specs.Char.{digit_value}
use Rattle.std.specs.Str.Parse.{AllDigits}
use Rattle.bit_words.specs.declared.number.Base.{Base}
use Rattle.bit_words.specs.declared.number.NumberFault.{NumberFault}
use Rattle.bit_words.specs.declared.number.NumberFault.TheVariants.{NotNumber, Over}
use Rattle.bit_words.specs.Numbers.{radix, value_of_digits, WritesDigits, AnswersMagnitude, Holds}

first_place : (d r : ℕ) → d * r ^ 0 + 0 ≡ 0 * r + d
first_place d r = let one : r ^ 0 ≡ 1 = pow-zero r in rw one (omega arith)

next_place : (d p v e r k : ℕ) → p ≡ r ^ k → d * r ^ suc k + (v * r + e) ≡ (d * p + v) * r + e
next_place d p v e r k is = let power : r ^ suc k ≡ r ^ k * r = pow-suc r k in rw (power, ← is) (omega arith)

-- one more digit at the end
pub value_push : (base : Base) (xs : List ℕ) (x : ℕ) → value_of_digits base (xs ++ x ∷ []) ≡ value_of_digits base xs * radix base + digit_value x
value_push base [] x = first_place (digit_value x) (radix base)
value_push base (d ∷ ds) x =
    let longer : length (ds ++ x ∷ []) ≡ suc (length ds) = length-append ds (x ∷ []) ∙ omega arith in
    rw (longer, value_push base ds x) (next_place (digit_value d) (radix base ^ length ds) (value_of_digits base ds) (digit_value x) (radix base) (length ds) refl)

pub value_more : (base : Base) (bs : List ℕ) (i : ℕ) → i < length bs
    → value_of_digits base (take (i + 1) bs) ≡ value_of_digits base (take i bs) * radix base + digit_value (get_or bs i 0)
value_more base bs i below = ap (value_of_digits base) (take_more bs i 0 below) ∙ value_push base (take i bs) (get_or bs i 0)

pub digit_below : (r : ℕ) (ds : List ℕ) (i : ℕ) → AllDigits r ds → i < length ds → digit_value (get_or ds i 0) < r
digit_below r [] i all below = omega arith
digit_below r (d ∷ ds) zero all below = all.0
digit_below r (d ∷ ds) (suc i) all below = digit_below r ds i all.1 (omega arith)

-- the first i bytes are read
pub record ReadTo (base : Base) (bytes : List ℕ) (i : ℕ) (read : Option ℕ) : Type 0 where
  pub digits : AllDigits (radix base) (take i bytes)
  pub value : Holds read (value_of_digits base (take i bytes))

-- at most one answer is right
pub answers_once : (P : ℕ → Type 0) → ((a b : ℕ) → P a → P b → a ≡ b) → (r other : Result ℕ NumberFault)
    → AnswersMagnitude P r → AnswersMagnitude P other → other ≡ r
answers_once P one (Ok a) (Ok b) x y = ap Ok (one b a y.0 x.0)
answers_once P one (Ok a) (Err Over) x y = let e : a ≡ y.0 = one a y.0 x.0 y.1 in absurd (omega arith)
answers_once P one (Ok a) (Err NotNumber) x y = absurd (y a x.0)
answers_once P one (Err Over) (Ok b) x y = let e : x.0 ≡ b = one x.0 b x.1 y.0 in absurd (omega arith)
answers_once P one (Err Over) (Err Over) x y = refl
answers_once P one (Err Over) (Err NotNumber) x y = absurd (y x.0 x.1)
answers_once P one (Err NotNumber) (Ok b) x y = absurd (x b y.0)
answers_once P one (Err NotNumber) (Err Over) x y = absurd (x y.0 y.1)
answers_once P one (Err NotNumber) (Err NotNumber) x y = refl

pub digits_once : (base : Base) (bytes : List ℕ) (a b : ℕ) → WritesDigits base bytes a → WritesDigits base bytes b → a ≡ b
digits_once base bytes a b x y = x.value ∙ sym y.value

pub read_more : (base : Base) (bytes : List ℕ) (i byte r digit : ℕ) (front back : Option ℕ) → i < length bytes → byte ≡ get_or bytes i 0 → r ≡ radix base
    → (digit_value byte < r) × (digit ≡ digit_value byte)
    → ReadTo base bytes i front → ((n : ℕ) → Holds front n → Holds back (n * r + digit)) → ReadTo base bytes (i + 1) back
read_more base bytes i byte r digit front back below here size small to more =
    let e : digit ≡ digit_value (get_or bytes i 0) = small.1 ∙ ap digit_value here in
    let s : digit_value (get_or bytes i 0) < radix base = rw (← here, ← size) small.0 in
    record {
      digits = digits_more (radix base) bytes i below to.digits s;
      value = rw (value_more base bytes i below, ← e, ← size) (more _ to.value);
    }

pub no_digits : (base : Base) (bytes : List ℕ) (i byte r : ℕ) → i < length bytes → byte ≡ get_or bytes i 0 → r ≡ radix base → ¬ (digit_value byte < r)
    → (m : ℕ) → ¬ (WritesDigits base bytes m)
no_digits base bytes i byte r below here size none m w = none (rw (here, size) (digit_below (radix base) bytes i w.digits below))

pub digits_answer_once : (base : Base) (bytes : List ℕ) (r other : Result ℕ NumberFault)
    → AnswersMagnitude (WritesDigits base bytes) r → AnswersMagnitude (WritesDigits base bytes) other → other ≡ r
digits_answer_once base bytes = answers_once (WritesDigits base bytes) (digits_once base bytes)
