-- Lists of operands and of suffixes as they are read one behind the other.
use Rattle.std.specs.Prelude.{◌≡◌, ℕ, ◌+◌, ◌<◌, ◌≤◌, List, [], ◌∷◌, ◌++◌, take, slice_get, Some, Result, Ok, Err}
use Rattle.fir_lexer.specs.declared.token.TokenKind.TheVariants as kind
use Rattle.fir_layout.specs.declared.laid.Laid.{Laid}
use Rattle.fir_layout.specs.Pieces.{Piece, A_token, piece_of, pieces_of}
use Rattle.fir_tree.specs.declared.expr.Expr.{Expr}
use Rattle.fir_tree.specs.declared.expr.Suffix.{Suffix}
use Rattle.fir_tree.specs.declared.fault.ParseFault.{ParseFault}
use Rattle.fir_grammar.specs.Grammar.{The_mark, Takes, A, Expressions, Suffixes}
use Rattle.fir_grammar.specs.Faults.{levels, last_suffixes, most}
use Rattle.fir_grammar.specs.Reading.{IsRefused}
use Rattle.token_reader.specs.Standing.{StandsIn, wanted}
use Rattle.fir_expr.specs.Parts.{HasPassed}

-- a number stands there, in whichever base
abbrev pub IsDigits : Piece → Type 0
IsDigits (A_token kind.Digits bytes) = Unit {0}
IsDigits _ = ⊥

-- a number stands at the place
pub record HasDigits (text : List ℕ) (list : List Laid) (i : ℕ) : Type 0 where
  pub part : Laid
  pub here : slice_get list i ≡ Some part
  pub is : IsDigits (piece_of text part)

-- something else stands at the place
pub record HasNoDigits (text : List ℕ) (list : List Laid) (i : ℕ) : Type 0 where
  pub part : Laid
  pub here : slice_get list i ≡ Some part
  pub none : ¬ (IsDigits (piece_of text part))

-- neither a `.` nor a `[` stands at the place
pub record HasNoSuffix (text : List ℕ) (list : List Laid) (i : ℕ) : Type 0 where
  pub part : Laid
  pub here : slice_get list i ≡ Some part
  pub no_dot : ¬ (Takes (The_mark 46) (piece_of text part))
  pub no_bracket : ¬ (Takes (The_mark 91) (piece_of text part))

-- so many expressions were read, and stand behind those read before
pub record HasOperands (major : ℕ) (count : ℕ) (text : List ℕ) (list : List Laid) (i : ℕ) (names : List (List ℕ)) (before now : List Expr) (j : ℕ) (after : List (List ℕ)) : Type 0 where
  pub operands : List Expr
  pub added : now ≡ before ++ operands
  pub passed : HasPassed major (A (Expressions count) ∷ []) text list i names (operands, tt) j after

-- all suffixes were read, and stand behind those read before
pub record HasSuffixes (major : ℕ) (text : List ℕ) (list : List Laid) (i : ℕ) (names : List (List ℕ)) (before now : List Suffix) (j : ℕ) (after : List (List ℕ)) : Type 0 where
  pub suffixes : List Suffix
  pub added : now ≡ before ++ suffixes
  pub passed : HasPassed major (A Suffixes ∷ []) text list i names (suffixes, tt) j after

-- one suffix was read, and those behind it may follow
pub record HasStepped (major : ℕ) (text : List ℕ) (list : List Laid) (i : ℕ) (names : List (List ℕ)) (suffix : Suffix) (j : ℕ) (after : List (List ℕ)) : Type 0 where
  pub goes_on : {xs : List Suffix} {k : ℕ} {last : List (List ℕ)} → HasPassed major (A Suffixes ∷ []) text list j after (xs, tt) k last → HasPassed major (A Suffixes ∷ []) text list i names (suffix ∷ xs, tt) k last
  pub refuses : {fault : ParseFault} → IsRefused (A Suffixes ∷ []) text list j fault → IsRefused (A Suffixes ∷ []) text list i fault
  pub stands : {brackets : ℕ} → StandsIn (pieces_of text list) i brackets → StandsIn (pieces_of text list) j brackets
  pub counted : last_suffixes (levels (take j (pieces_of text list))).suffixes ≡ last_suffixes (levels (take i (pieces_of text list))).suffixes + 1
  pub room : wanted after list j ≤ wanted names list i

-- what a reader of one suffix answers, where so many are read before it: there are fewer than there may be
abbrev pub AnswersSuffix : ℕ → List ℕ → List Laid → ℕ → List (List ℕ) → ℕ → Result (Suffix × ℕ) ParseFault → List (List ℕ) → Type 0
AnswersSuffix major text list i names count (Ok x) after = HasStepped major text list i names x.0 x.1 after × (count < most)
AnswersSuffix major text list i names count (Err fault) after = IsRefused (A Suffixes ∷ []) text list i fault
