-- The bytes of names.
use Rattle.std.specs.Prelude.{◌≡◌, ℕ, ◌==◌, ◌||◌, ◌&&◌, not, Bool, true, false, List, ◌∷◌, ◌++◌}
use Rattle.std.specs.List.{All, AllPass}
use Rattle.fir_lexer.specs.declared.token.TokenKind.{TokenKind}
use Rattle.fir_lexer.specs.declared.token.TokenKind.TheVariants.{Word, Call, Quoted, Digits, Text, Arrow, Mark}
use Rattle.fir_lexer.specs.Bytes.{in_word}

-- the tokens that a text names something by: a word, a name between backquotes, and digits where a field is named
abbrev pub names_it : TokenKind → Bool
names_it Word = true
names_it Quoted = true
names_it Digits = true
names_it Call = false
names_it Text = false
names_it Arrow = false
names_it (Mark mark) = false

-- The text has letters, digits, `_`, `$` and `-` alone.
abbrev pub IsWord : List ℕ → Type 0
IsWord text = AllPass in_word text

-- It has these and `#` alone, which stands in names that no text writes.
abbrev pub in_name : ℕ → Bool
in_name b = in_word b || (b == 35)

abbrev pub IsName : List ℕ → Type 0
IsName text = AllPass in_name text

-- It is `#`, and letters, digits, `_`, `$` and `-` behind it.
pub record IsItemName (text : List ℕ) : Type 0 where
  pub rest : List ℕ
  pub is : text ≡ 35 ∷ rest
  pub word : IsWord rest

-- These names are those that a text writes, and behind them further ones that begin with `#`.
pub record AddItemNames (written names : List (List ℕ)) : Type 0 where
  pub items : List (List ℕ)
  pub are : names ≡ written ++ items
  pub begin : All IsItemName items

-- It has no space and no line feed.
abbrev pub no_break : ℕ → Bool
no_break b = not (b == 32) && not (b == 10)

abbrev pub IsUnbroken : List ℕ → Type 0
IsUnbroken text = AllPass no_break text
