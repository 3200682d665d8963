-- Numbers that strings quote, and numbers past the range.
use Rattle.std.proofs.Common.{◌≡◌, ◌≢◌, ℕ, ◌+◌, ◌-◌, ◌<◌, ◌≤◌, ◌^◌, Bool, List, [], ◌∷◌, ◌++◌, length, take, drop, get_or, refl, ap, sym, ◌∙◌, arith, ◌⊎◌, inl, inr, ⊎_elim}
use Rattle.std.specs.Prelude.{Result, Err, IsTrue}
use Rattle.std.proofs.lemmas.List.{append_cancel_right, take_more, take_all, take_rest}
use Rattle.bit_words.specs.Numbers.{letter, WritesDigits, AnswersMagnitude}
use Rattle.bit_words.specs.declared.number.Base.{Base}
use Rattle.bit_words.specs.declared.number.Base.TheVariants.{Binary, Octal, Decimal, Hexadecimal}
use Rattle.bit_words.specs.declared.number.NumberFault.{NumberFault}
use Rattle.bit_words.specs.declared.number.NumberFault.TheVariants.{Over}
use Rattle.bit_words.proofs.Readings.{letter_same}
use Rattle.fir_lexer.specs.Tokens.{QuotesNumber, IsQuotedBase}

-- an answer that is the only right one is Over exactly where the magnitude is past the range
pub past_iff : (P : ℕ → Type 0) (r : Result ℕ NumberFault) (b : Bool) → AnswersMagnitude P r → ((other : Result ℕ NumberFault) → AnswersMagnitude P other → other ≡ r)
    → (IsTrue b → r ≡ Err Over) × (r ≡ Err Over → IsTrue b)
    → (IsTrue b → (m : ℕ) × P m × (2 ^ 128 ≤ m)) × (((m : ℕ) × P m × (2 ^ 128 ≤ m)) → IsTrue b)
past_iff P r b answer only iff = (λ t. rw (iff.0 t) at answer, λ past. iff.1 (sym (only (Err Over) past)))

pub past_along : (P Q : ℕ → Type 0) (b : Bool) → ((m : ℕ) → (P m → Q m) × (Q m → P m))
    → (IsTrue b → (m : ℕ) × Q m × (2 ^ 128 ≤ m)) × (((m : ℕ) × Q m × (2 ^ 128 ≤ m)) → IsTrue b)
    → (IsTrue b → (m : ℕ) × P m × (2 ^ 128 ≤ m)) × (((m : ℕ) × P m × (2 ^ 128 ≤ m)) → IsTrue b)
past_along P Q b same iff = (λ t. (let q = iff.0 t in (q.0, (same q.0).1 q.1, q.2)), λ p. iff.1 (p.0, (same p.0).0 p.1, p.2))

split_last : (xs : List ℕ) → 0 < length xs → xs ≡ take (length xs - 1) xs ++ get_or xs (length xs - 1) 0 ∷ []
split_last xs some =
    let whole : (length xs - 1) + 1 ≡ length xs = omega arith in
    let more = take_more xs (length xs - 1) 0 (omega arith) in
    sym (take_all (length xs) xs (omega arith)) ∙ (rw whole at more)

pub quote_form : (bytes : List ℕ) (l : ℕ) → 1 < length bytes → get_or bytes 0 0 ≡ 34 → l ≡ get_or bytes 1 0 → 0 < length (take (length bytes - 2) (drop 2 bytes))
    → get_or (take (length bytes - 2) (drop 2 bytes)) (length (take (length bytes - 2) (drop 2 bytes)) - 1) 0 ≡ 34
    → bytes ≡ 34 ∷ l ∷ (take (length (take (length bytes - 2) (drop 2 bytes)) - 1) (take (length bytes - 2) (drop 2 bytes)) ++ 34 ∷ [])
quote_form [] l h a b some at = absurd (omega arith)
quote_form (x ∷ []) l h a b some at = absurd (omega arith)
quote_form (x ∷ y ∷ rest) l h a b some at =
    let e : take (length (x ∷ y ∷ rest) - 2) (drop 2 (x ∷ y ∷ rest)) ≡ rest = take_rest (x ∷ y ∷ rest) 2 in
    let last : get_or rest (length rest - 1) 0 ≡ 34 = rw e at at in
    let long : 0 < length rest = rw e at some in
    let all : rest ≡ take (length rest - 1) rest ++ 34 ∷ [] = rw last at (split_last rest long) in
    rw (e, sym a, b) (ap (λ xs. x ∷ y ∷ xs) (rw (sym a) at all))

-- a minus is no digit
no_minus_digit : (base : Base) (ds : List ℕ) (m : ℕ) → WritesDigits base (45 ∷ ds) m → ⊥
no_minus_digit Binary ds m w = omega (arith, w.digits.0)
no_minus_digit Octal ds m w = omega (arith, w.digits.0)
no_minus_digit Decimal ds m w = omega (arith, w.digits.0)
no_minus_digit Hexadecimal ds m w = omega (arith, w.digits.0)

pub quotes_iff : (bytes inner digits : List ℕ) (base : Base) (m : ℕ) → IsQuotedBase base → bytes ≡ 34 ∷ letter base ∷ (inner ++ 34 ∷ [])
    → (inner ≡ 45 ∷ digits) ⊎ ((get_or inner 0 0 ≢ 45) × (digits ≡ inner)) → (QuotesNumber bytes m → WritesDigits base digits m) × (WritesDigits base digits m → QuotesNumber bytes m)
quotes_iff bytes inner digits base m quoted form sign = (to, from sign)
  where
    unsigned : (q : QuotesNumber bytes m) → (q.sign ++ q.digits ≡ inner) × (q.base ≡ base)
    unsigned q =
        let both = sym q.form ∙ form in
        let tails : (q.sign ++ q.digits) ++ 34 ∷ [] ≡ inner ++ 34 ∷ [] = cc in
        let heads : letter q.base ≡ letter base = cc in
        (append_cancel_right _ _ (34 ∷ []) tails, letter_same _ _ heads)

    to_digits : (s ds : List ℕ) → WritesDigits base ds m → s ++ ds ≡ inner → (s ≡ []) ⊎ (s ≡ 45 ∷ []) → WritesDigits base digits m
    to_digits s ds w e sg = ⊎_elim
        (λ none. (let same : ds ≡ inner = rw none at e in ⊎_elim
        (λ minus. (let full : ds ≡ 45 ∷ digits = same ∙ minus in absurd (no_minus_digit base digits m (rw full at w))))
        (λ plain. rw (plain.1, sym same) w) sign))
        (λ one. (let same : 45 ∷ ds ≡ inner = rw one at e in ⊎_elim
        (λ minus. (let d : ds ≡ digits = cc in rw d at w))
        (λ plain. absurd (plain.0 (sym (ap (λ xs. get_or xs 0 0) same)))) sign)) sg

    to : QuotesNumber bytes m → WritesDigits base digits m
    to q = let u = unsigned q in to_digits q.sign q.digits (rw u.1 at q.written) u.0 q.signed

    from : (inner ≡ 45 ∷ digits) ⊎ ((get_or inner 0 0 ≢ 45) × (digits ≡ inner)) → WritesDigits base digits m → QuotesNumber bytes m
    from sg w = ⊎_elim
        (λ minus. record { base = base; quoted = quoted; sign = 45 ∷ []; signed = inr refl; digits = digits; form = rw minus at form; written = w })
        (λ plain. record { base = base; quoted = quoted; sign = []; signed = inl refl; digits = digits; form = rw (plain.1) form; written = w }) sg
