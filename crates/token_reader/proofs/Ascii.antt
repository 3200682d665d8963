-- The bytes of names and digits are ASCII, and so UTF-8.
use Rattle.std.proofs.Common.{◌≡◌, ℕ, zero, suc, ◌-◌, ◌<◌, Bool, true, false, ◌||◌, ◌&&◌, ◌==◌, nat_le, List, [], ◌∷◌, ◌++◌, length, take, refl, arith, codes, cond, sym, subst, ⊎_elim}
use Rattle.std.specs.Prelude.{IsAscii, IsUtf8}
use Rattle.std.specs.List.{take_while, AllPass}
use Rattle.std.proofs.lemmas.Bool.{or_cases, eqb-true}
use Rattle.std.proofs.lemmas.Bool.Decides.{nat_tests}
use Rattle.std.proofs.lemmas.List.Sums.{take_while-cons}
use Rattle.std.proofs.lemmas.Str.{IsUtf8-from_ascii}
use Rattle.fir_lexer.specs.Bytes.{is_letter, is_digit, begins_word, in_digits, in_word}
use Rattle.fir_lexer.specs.Pieces.{IsOf}
use Rattle.fir_lexer.specs.declared.pieces.PieceKind.TheVariants.{TokenOf}
use Rattle.fir_lexer.specs.declared.token.TokenKind.{TokenKind}
use Rattle.fir_lexer.specs.declared.token.TokenKind.TheVariants as kind
use Rattle.fir_layout.specs.Pieces.{A_token}
use Rattle.fir_grammar.specs.Grammar.{A_name, A_field, Takes, name_in}

and_second : (a b : Bool) → (a && b) ≡ true → b ≡ true
and_second true b h = h
and_second false b h = cc

letter_small : (b : ℕ) → is_letter b ≡ true → b < 128
letter_small b h = ⊎_elim (λ upper. (let s = and_second (nat_le 65 b) (nat_le b 90) upper in grind (arith, nat_tests)))
    (λ lower. (let s = and_second (nat_le 97 b) (nat_le b 122) lower in grind (arith, nat_tests))) (or_cases (nat_le 65 b && nat_le b 90) (nat_le 97 b && nat_le b 122) h)

sign_small : (b : ℕ) → ((b == 95) || ((b == 36) || false)) ≡ true → b < 128
sign_small b h = ⊎_elim (λ e. (let s : b ≡ 95 = eqb-true b 95 e in omega arith))
    (λ more. ⊎_elim (λ e. (let s : b ≡ 36 = eqb-true b 36 e in omega arith)) (λ none. cc) (or_cases (b == 36) false more)) (or_cases (b == 95) ((b == 36) || false) h)

begin_small : (b : ℕ) → begins_word b ≡ true → b < 128
begin_small b h = ⊎_elim (letter_small b) (sign_small b) (or_cases (is_letter b) ((b == 95) || ((b == 36) || false)) h)

digit_small : (b : ℕ) → is_digit b ≡ true → b < 128
digit_small b h = let s = and_second (nat_le 48 b) (nat_le b 57) h in grind (arith, nat_tests)

digits_small : (b : ℕ) → in_digits b ≡ true → b < 128
digits_small b h = ⊎_elim (begin_small b) (digit_small b) (or_cases (begins_word b) (is_digit b) h)

word_small : (b : ℕ) → in_word b ≡ true → b < 128
word_small b h = ⊎_elim (digits_small b) (λ e. (let s : b ≡ 45 = eqb-true b 45 e in omega arith)) (or_cases (in_digits b) (b == 45) h)

-- lists of such bytes

ascii_none : IsAscii []
ascii_none i = omega arith

ascii_cons : (b : ℕ) (bs : List ℕ) → b < 128 → IsAscii bs → IsAscii (b ∷ bs)
ascii_cons b bs h more zero = h
ascii_cons b bs h more (suc i) = more i

ascii_all : (p : ℕ → Bool) → ((b : ℕ) → p b ≡ true → b < 128) → (bs : List ℕ) → AllPass p bs → IsAscii bs
ascii_all p small [] h = ascii_none
ascii_all p small (b ∷ bs) h = ascii_cons b bs (small b (h 0 0 (omega arith))) (ascii_all p small bs (λ k d l. h (suc k) d (omega (arith, l))))

ascii_while : (bs : List ℕ) → IsAscii (take_while in_word bs)
ascii_while [] = ascii_none
ascii_while (b ∷ bs) = subst (λ (xs : List ℕ). IsAscii xs) (sym (take_while-cons in_word b bs)) (by (in_word b) refl (ascii_while bs))
  where
    by : (t : Bool) → in_word b ≡ t → IsAscii (take_while in_word bs) → IsAscii (cond t (b ∷ take_while in_word bs) [])
    by true e more = ascii_cons b (take_while in_word bs) (word_small b e) more
    by false e more = ascii_none

ascii_append : (xs bs : List ℕ) → IsAscii xs → IsAscii bs → IsAscii (xs ++ bs)
ascii_append [] bs a b = b
ascii_append (x ∷ xs) bs a b = ascii_cons x (xs ++ bs) (a 0) (ascii_append xs bs (λ i. a (suc i)) b)

ascii_take : (n : ℕ) (bs : List ℕ) → IsAscii bs → IsAscii (take n bs)
ascii_take zero bs h = ascii_none
ascii_take (suc n) [] h = ascii_none
ascii_take (suc n) (b ∷ bs) h = ascii_cons b (take n bs) (h 0) (ascii_take n bs (λ i. h (suc i)))

ascii_name : (k : TokenKind) (bytes behind : List ℕ) → IsOf (TokenOf k) bytes behind → Takes A_field (A_token k bytes) → IsAscii (name_in k bytes)
ascii_name k [] behind h named = absurd h
ascii_name kind.Word (b ∷ rest) behind h named = ascii_cons b rest (begin_small b h.0) (ascii_all in_word word_small rest h.1)
ascii_name kind.Digits (b ∷ rest) behind h named = ascii_cons b rest (digit_small b h.0) (ascii_all in_digits digits_small rest h.1)
ascii_name kind.Quoted (b ∷ rest) behind h named =
    let all : IsAscii rest = rw h.1.1 (ascii_append (take_while in_word rest) (codes "`") (ascii_while rest) (ascii_cons 96 [] (omega arith) ascii_none)) in
    ascii_take (length (b ∷ rest) - 2) rest all
ascii_name _ (b ∷ rest) behind h named = absurd named

-- the text of a name is UTF-8
pub utf8_name : (k : TokenKind) (bytes behind : List ℕ) → IsOf (TokenOf k) bytes behind → Takes A_field (A_token k bytes) → IsUtf8 (name_in k bytes)
utf8_name k bytes behind h named = IsUtf8-from_ascii (name_in k bytes) (ascii_name k bytes behind h named)

-- a name is one of what a field may be
pub name_field : (k : TokenKind) (bytes : List ℕ) → Takes A_name (A_token k bytes) → Takes A_field (A_token k bytes)
name_field kind.Word bytes h = tt
name_field kind.Quoted bytes h = tt
name_field _ bytes h = absurd h
