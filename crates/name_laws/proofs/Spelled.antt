-- The names that a text gives to its circuit.
use Rattle.std.proofs.Common.{◌≡◌, ℕ, Bool, true, false, List, [], ◌∷◌, refl, sym, subst, arith, true≢false, if◌then◌else◌, ◌⊎◌, inl, inr, ⊎_elim, ◌<◌, Contains, bytes_eq}
use Rattle.std.specs.List.{All}
use Rattle.std.proofs.lemmas.List.Elements.{All-nil, All-cons, All-head, All-tail, All-push, Contains-append_cases, Contains-append_right}
use Rattle.std.proofs.lemmas.Slice.Eq.{bytes_eq-Decides}
use Rattle.fir_lexer.specs.declared.token.Token.{Token}
use Rattle.fir_lexer.specs.declared.token.TokenKind.{TokenKind}
use Rattle.fir_lexer.specs.declared.token.TokenKind.TheVariants as kind
use Rattle.fir_layout.specs.declared.laid.Laid.{Laid}
use Rattle.fir_layout.specs.declared.laid.Laid.TheVariants as laid
use Rattle.fir_layout.specs.Layout.{tokens_in}
use Rattle.fir_layout.specs.Pieces.{A_token, bytes_of}
use Rattle.fir_tree.specs.Numbered.{AddsName}
use Rattle.fir_lexer.specs.Bytes.{in_word}
use Rattle.fir_grammar.specs.Grammar.{Terminal, A_name, A_field, Takes, Kept, Its_name, Symbol, Is, A, Rule, IsCase, a_text, Values, Spells, no_symbol, a_rule, a_piece, a_place, a_name, a_magnitude, a_placed_magnitude, a_quoted, a_format, name_in, field_names}
use Rattle.name_laws.specs.Names.{names_it, IsWord}
use Rattle.name_laws.proofs.Tokens.{IsTokenIn, token_word}

-- Where the rules keep a name, they ask for one.
abbrev asks_name : Terminal → Bool
asks_name A_name = true
asks_name A_field = true
asks_name _ = false

abbrev asks : Kept → Terminal → Bool
asks Its_name s = asks_name s
asks _ s = true

abbrev pub names_only : List Symbol → Bool
names_only [] = true
names_only (Is kept s ∷ ss) = if asks kept s then names_only ss else false
names_only (A r ∷ ss) = names_only ss

pub each_case : {r : Rule} {body : List Symbol} → IsCase r body → names_only body ≡ true
each_case a_text = refl
each_case _ = refl

-- What such a symbol takes names something.
takes_name : (s : Terminal) (kind : TokenKind) (bytes : List ℕ) → asks_name s ≡ true → Takes s (A_token kind bytes) → names_it kind ≡ true
takes_name A_name kind.Word bytes e h = refl
takes_name A_name kind.Quoted bytes e h = refl
takes_name A_name kind.Call bytes e h = absurd h
takes_name A_name kind.Digits bytes e h = absurd h
takes_name A_name kind.Text bytes e h = absurd h
takes_name A_name kind.Arrow bytes e h = absurd h
takes_name A_name (kind.Mark mark) bytes e h = absurd h
takes_name A_field kind.Word bytes e h = refl
takes_name A_field kind.Quoted bytes e h = refl
takes_name A_field kind.Digits bytes e h = refl
takes_name A_field kind.Call bytes e h = absurd h
takes_name A_field kind.Text bytes e h = absurd h
takes_name A_field kind.Arrow bytes e h = absurd h
takes_name A_field (kind.Mark mark) bytes e h = absurd h
takes_name _ kind bytes e h = absurd (true≢false (sym e))

if_true : (a b : Bool) → (if a then b else false) ≡ true → (a ≡ true) × (b ≡ true)
if_true true b e = (refl, e)
if_true false b e = absurd (true≢false (sym e))

-- a text is one of some or none of them
only_one : (x y : List ℕ) → Contains (x ∷ []) y → x ≡ y
only_one x y (i, lt, e) = let zero_is : i ≡ 0 = omega arith in rw zero_is at e

by_first : (x t : List ℕ) (xs : List (List ℕ)) → Contains xs t ⊎ ¬ (Contains xs t) → (b : Bool) → bytes_eq x t ≡ b → Contains (x ∷ xs) t ⊎ ¬ (Contains (x ∷ xs) t)
by_first x t xs more true e = inl (0, omega arith, (bytes_eq-Decides x t).0 e)
by_first x t xs (inl c) false e = inl (Contains-append_right (x ∷ []) xs t c)
by_first x t xs (inr none) false e = inr (λ c.
    ⊎_elim (λ one. let same : bytes_eq x t ≡ true = (bytes_eq-Decides x t).1 (only_one x t one) in cc) (λ more. none more) (Contains-append_cases (x ∷ []) xs t c))

contains_or_not : (ts : List (List ℕ)) (t : List ℕ) → Contains ts t ⊎ ¬ (Contains ts t)
contains_or_not [] t = inr (λ c. let within : c.0 < 0 = c.1 in omega arith)
contains_or_not (x ∷ xs) t = by_first x t xs (contains_or_not xs t) (bytes_eq x t) refl

adds_word : (old new : List (List ℕ)) (name : List ℕ) (id : ℕ) → AddsName old new name id → All IsWord old → IsWord name → All IsWord new
adds_word old new name id adds words word = ⊎_elim
    (λ known. subst (All IsWord) (sym (adds.known known)) words)
    (λ unknown. subst (All IsWord) (sym (adds.added unknown)) (All-push IsWord old name words word))
    (contains_or_not old name)

module _ (major : ℕ) (text : List ℕ) where
  abbrev pub AreTokensIn : List Laid → Type 0
  AreTokensIn ls = All (IsTokenIn text) (tokens_in ls)

  rest_in : (l : Laid) (ls : List Laid) → AreTokensIn (l ∷ ls) → AreTokensIn ls
  rest_in (laid.Item token) ls h = All-tail (IsTokenIn text) token (tokens_in ls) h
  rest_in (laid.LineEnd at) ls h = h
  rest_in (laid.Open at) ls h = h
  rest_in (laid.Close at) ls h = h
  rest_in (laid.End at) ls h = h

  first_in : (token : Token) (ls : List Laid) → AreTokensIn (laid.Item token ∷ ls) → IsTokenIn text token
  first_in token ls h = All-head (IsTokenIn text) token (tokens_in ls) h

  pub spelled_words : {ss : List Symbol} {ls rest : List Laid} {names after : List (List ℕ)} {vs : Values ss} → names_only ss ≡ true → Spells major text ss ls names vs rest after → AreTokensIn ls → All IsWord names
      → AreTokensIn rest × All IsWord after
  spelled_words only no_symbol tokens words = (tokens, words)
  spelled_words only (a_rule {r} {ss} {body} {ls} {mid} case inner more) tokens words =
      let first = spelled_words (each_case case) inner tokens words in
      spelled_words only more first.0 first.1
  spelled_words only (a_piece {s} {ss} {l} {ls} h more) tokens words = spelled_words only more (rest_in l ls tokens) words
  spelled_words only (a_place {s} {ss} {l} {ls} h more) tokens words = spelled_words only more (rest_in l ls tokens) words
  spelled_words only (a_name {s} {ss} {token} {ls} {rest} {names} {more = new} {after} {id} h adds more) tokens words =
      let both = if_true (asks_name s) (names_only ss) only in
      let word = token_word text token (first_in token ls tokens) (takes_name s token.kind (bytes_of text token) both.0 h) in
      spelled_words both.1 more (rest_in (laid.Item token) ls tokens) (adds_word names new (name_in token.kind (bytes_of text token)) id adds words word)
  spelled_words only (a_magnitude {token} {ls} h n more) tokens words = spelled_words only more (rest_in (laid.Item token) ls tokens) words
  spelled_words only (a_placed_magnitude {token} {ls} h n more) tokens words = spelled_words only more (rest_in (laid.Item token) ls tokens) words
  spelled_words only (a_quoted {token} {ls} h n more) tokens words = spelled_words only more (rest_in (laid.Item token) ls tokens) words
  spelled_words only (a_format {token} {ls} h n more) tokens words = spelled_words only more (rest_in (laid.Item token) ls tokens) words

-- the fields of memory ports
abbrev pub passes : List ℕ → Bool
passes [] = true
passes (b ∷ bytes) = if in_word b then passes bytes else false

abbrev pass_all : List (List ℕ) → Bool
pass_all [] = true
pass_all (text ∷ texts) = if passes text then pass_all texts else false

pub word_passes : (text : List ℕ) → passes text ≡ true → IsWord text
word_passes [] e = All-nil (λ b. in_word b ≡ true)
word_passes (b ∷ text) e = let both = if_true (in_word b) (passes text) e in All-cons (λ b. in_word b ≡ true) b text both.0 (word_passes text both.1)

words_pass : (texts : List (List ℕ)) → pass_all texts ≡ true → All IsWord texts
words_pass [] e = All-nil IsWord
words_pass (text ∷ texts) e = let both = if_true (passes text) (pass_all texts) e in All-cons IsWord text texts (word_passes text both.0) (words_pass texts both.1)

pub fields_are_words : All IsWord field_names
fields_are_words = words_pass field_names refl
