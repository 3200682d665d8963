-- Where a reader of types and expressions stands, and where it stands behind one.
use Rattle.std.specs.Prelude.{◌≡◌, ℕ, ◌+◌, ◌≤◌, ◌<◌, false, List, length, take, drop}
use Rattle.fir_lexer.specs.Tokens.{AreTokens}
use Rattle.fir_layout.specs.declared.laid.Laid.{Laid}
use Rattle.fir_layout.specs.Layout.{tokens_in, EndsOnce}
use Rattle.fir_layout.specs.Pieces.{Piece}
use Rattle.fir_grammar.specs.Faults.{levels, last_suffixes, without_last, most}

-- the list is laid out from the tokens of the text, and ends with its end
pub record IsLaidFrom (text : List ℕ) (list : List Laid) : Type 0 where
  pub tokens : AreTokens text (tokens_in list)
  pub ends : EndsOnce (length text) list

-- So many brackets are open at a place, and the piece before it is no `.`: an expression may begin there.
pub record StandsIn (pieces : List Piece) (at brackets : ℕ) : Type 0 where
  pub counted : length (levels (take at pieces)).suffixes ≡ brackets + 1
  pub few : brackets ≤ most
  pub no_dot : (levels (take at pieces)).dotted ≡ false

-- A type may begin there: no `.` and no `[` counts yet.
pub record BeginsType (pieces : List Piece) (at brackets : ℕ) : Type 0 where
  pub stands : StandsIn pieces at brackets
  pub no_suffix : last_suffixes (levels (take at pieces)).suffixes ≡ 0

-- From i to j brackets close as they open, and no `.` stands last: the same blocks and the same brackets are open again.
pub record IsWhole (pieces : List Piece) (i j : ℕ) : Type 0 where
  pub blocks : (levels (take j pieces)).blocks ≡ (levels (take i pieces)).blocks
  pub outer : without_last (levels (take j pieces)).suffixes ≡ without_last (levels (take i pieces)).suffixes
  pub some : 0 < length (levels (take j pieces)).suffixes
  pub no_dot : (levels (take j pieces)).dotted ≡ false

-- the names held and the tokens from a place on
abbrev pub wanted : List (List ℕ) → List Laid → ℕ → ℕ
wanted names list at = length names + length (tokens_in (drop at list))
