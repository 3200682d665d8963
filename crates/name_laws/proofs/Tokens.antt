-- The bytes of tokens that name something.
use Rattle.std.proofs.Common.{◌≡◌, ℕ, zero, suc, ◌+◌, ◌-◌, ◌==◌, ◌||◌, Bool, true, false, List, [], ◌∷◌, ◌++◌, take, drop, length, codes, refl, sym, ap, ◌∙◌, subst, arith, true≢false, if◌then◌else◌}
use Rattle.std.specs.List.{All, AllPass, take_while, prefix_len}
use Rattle.std.proofs.lemmas.List.Elements.{All-nil, All-cons, All-append, All-weaker}
use Rattle.fir_lexer.specs.declared.token.Token.{Token}
use Rattle.fir_lexer.specs.declared.token.TokenKind.{TokenKind}
use Rattle.fir_lexer.specs.declared.token.TokenKind.TheVariants.{Word, Call, Quoted, Digits, Text, Arrow, Mark}
use Rattle.fir_lexer.specs.declared.pieces.PieceKind.{PieceKind}
use Rattle.fir_lexer.specs.declared.pieces.PieceKind.TheVariants.{TokenOf}
use Rattle.fir_lexer.specs.Bytes.{in_word, in_digits, begins_word, is_digit}
use Rattle.fir_lexer.specs.Pieces.{IsOf}
use Rattle.fir_lexer.specs.Tokens.{IsPiece, Lexes, no_piece, then_piece, token_of, tokens_of, AreTokens}
use Rattle.fir_layout.specs.Pieces.{bytes_of}
use Rattle.fir_grammar.specs.Grammar.{name_in}
use Rattle.name_laws.specs.Names.{names_it, IsWord}

-- The bytes of a token are a piece of its kind.
pub record IsTokenIn (text : List ℕ) (token : Token) : Type 0 where
  pub behind : List ℕ
  pub is : IsOf (TokenOf token.kind) (bytes_of text token) behind

none_left : (n : ℕ) → drop {A = ℕ} n [] ≡ []
none_left zero = refl
none_left (suc n) = refl

drop_more : (n k : ℕ) (text : List ℕ) → drop k (drop n text) ≡ drop (n + k) text
drop_more zero k text = let e : k ≡ 0 + k = omega arith in ap (λ n. drop n text) e
drop_more (suc n) k [] = none_left k ∙ sym (none_left (suc n + k))
drop_more (suc n) k (b ∷ text) = let e : suc n + k ≡ suc (n + k) = omega arith in drop_more n k text ∙ sym (ap (λ n. drop n (b ∷ text)) e)

module _ (text : List ℕ) where
  the_token : (kind : PieceKind) (at n : ℕ) → IsPiece (drop at text) kind n → All (IsTokenIn text) (token_of kind at (at + n))
  the_token (TokenOf kind) at n piece =
      let e : at + n - at ≡ n = omega arith in
      All-cons (IsTokenIn text) (record { kind = kind; start = at; end = at + n }) []
      (record { behind = drop n (drop at text); is = subst (λ m. IsOf (TokenOf kind) (take m (drop at text)) (drop n (drop at text))) (sym e) piece.longest.is }) (All-nil (IsTokenIn text))
  the_token _ at n piece = All-nil (IsTokenIn text)

  all_tokens : {bytes rest : List ℕ} {pieces : List (PieceKind × ℕ)} (at : ℕ) → bytes ≡ drop at text → Lexes bytes pieces rest → All (IsTokenIn text) (tokens_of at pieces)
  all_tokens at e (no_piece rest) = All-nil (IsTokenIn text)
  all_tokens at e (then_piece kind n pieces bytes rest piece more) =
      All-append (IsTokenIn text) (token_of kind at (at + n)) (tokens_of (at + n) pieces)
      (the_token kind at n (subst (λ l. IsPiece l kind n) e piece))
      (all_tokens (at + n) (ap (drop n) e ∙ drop_more at n text) more)

  pub tokens_are_in : (tokens : List Token) → AreTokens text tokens → All (IsTokenIn text) tokens
  tokens_are_in tokens are = subst (All (IsTokenIn text)) (sym are.made) (all_tokens 0 refl are.lexed)

-- classes of bytes
or_left : (a b : Bool) → a ≡ true → (a || b) ≡ true
or_left true b e = refl
or_left false b e = absurd (true≢false (sym e))

or_right : (a b : Bool) → b ≡ true → (a || b) ≡ true
or_right true b e = refl
or_right false b e = e

digits_pass : (b : ℕ) → in_digits b ≡ true → in_word b ≡ true
digits_pass b e = or_left (in_digits b) (b == 45) e

letter_passes : (b : ℕ) → begins_word b ≡ true → in_word b ≡ true
letter_passes b e = digits_pass b (or_left (begins_word b) (is_digit b) e)

digit_passes : (b : ℕ) → is_digit b ≡ true → in_word b ≡ true
digit_passes b e = digits_pass b (or_right (begins_word b) (is_digit b) e)

taken_pass : (bytes : List ℕ) → AllPass in_word (take_while in_word bytes)
taken_pass [] = All-nil (λ b. in_word b ≡ true)
taken_pass (b ∷ bytes) = by (in_word b) refl (taken_pass bytes)
  where
    by : (t : Bool) → in_word b ≡ t → AllPass in_word (take_while in_word bytes) → AllPass in_word (take (if t then 1 + prefix_len in_word bytes else 0) (b ∷ bytes))
    by true e rest =
        let n : suc (prefix_len in_word bytes) ≡ 1 + prefix_len in_word bytes = omega arith in
        subst (λ n. AllPass in_word (take n (b ∷ bytes))) n (All-cons (λ b. in_word b ≡ true) b (take_while in_word bytes) e rest)
    by false e rest = All-nil (λ b. in_word b ≡ true)

-- A name without its backquotes.
unquoted : (b : ℕ) (rest front : List ℕ) → rest ≡ front ++ codes "`" → take (length (b ∷ rest) - 2) (drop 1 (b ∷ rest)) ≡ front
unquoted b rest front e =
    let many : length (b ∷ rest) - 2 ≡ length front = ap (λ l. length (b ∷ l) - 2) e ∙ shorter front in
    ap (λ n. take n rest) many ∙ (ap (take (length front)) e ∙ front_of front (codes "`"))
  where
    front_of : (xs ys : List ℕ) → take (length xs) (xs ++ ys) ≡ xs
    front_of [] ys = refl
    front_of (x ∷ xs) ys = ap (λ l. x ∷ l) (front_of xs ys)

    longer : (xs : List ℕ) → length (xs ++ codes "`") ≡ length xs + 1
    longer [] = refl
    longer (x ∷ xs) = let h = longer xs in omega (arith, h)

    shorter : (xs : List ℕ) → length (b ∷ xs ++ codes "`") - 2 ≡ length xs
    shorter xs = let h = longer xs in omega (arith, h)

module _ (behind : List ℕ) where
  pub word_of : (kind : TokenKind) (bytes : List ℕ) → names_it kind ≡ true → IsOf (TokenOf kind) bytes behind → IsWord (name_in kind bytes)
  word_of kind [] e is = absurd is
  word_of Word (b ∷ rest) e is = All-cons (λ b. in_word b ≡ true) b rest (letter_passes b is.0) is.1
  word_of Digits (b ∷ rest) e is =
      All-cons (λ b. in_word b ≡ true) b rest (digit_passes b is.0) (All-weaker (λ b. in_digits b ≡ true) (λ b. in_word b ≡ true) digits_pass rest is.1)
  word_of Quoted (b ∷ rest) e is = subst IsWord (sym (unquoted b rest (take_while in_word rest) is.1.1)) (taken_pass rest)
  word_of Call (b ∷ rest) e is = absurd (true≢false (sym e))
  word_of Text (b ∷ rest) e is = absurd (true≢false (sym e))
  word_of Arrow (b ∷ rest) e is = absurd (true≢false (sym e))
  word_of (Mark mark) (b ∷ rest) e is = absurd (true≢false (sym e))

pub token_word : (text : List ℕ) (token : Token) → IsTokenIn text token → names_it token.kind ≡ true → IsWord (name_in token.kind (bytes_of text token))
token_word text token is e = word_of is.behind token.kind (bytes_of text token) e is.is
