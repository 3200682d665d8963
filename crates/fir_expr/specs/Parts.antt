-- Rules that a reader has read, and what the pieces at a place say of them.
use Rattle.std.specs.Prelude.{ℕ, ◌+◌, ◌-◌, ◌^◌, ◌<◌, ◌≤◌, List, [], ◌∷◌, ◌++◌, codes, Result, Ok, Err}
use Rattle.bit_words.specs.declared.value.Kind.{Kind}
use Rattle.bit_words.specs.declared.value.Kind.TheVariants as sign
use Rattle.prim_ops.specs.Operations.{name_of, IsWritten}
use Rattle.fir_layout.specs.declared.laid.Laid.{Laid}
use Rattle.fir_layout.specs.Pieces.{pieces_of}
use Rattle.fir_tree.specs.declared.fault.ParseFault.{ParseFault}
use Rattle.fir_grammar.specs.Grammar.{The_word, The_call, The_mark, IsCase, a_reference, A, Rule, Tree, Symbol, Values}
use Rattle.fir_grammar.specs.Reading.{HasRead, IsRefused, Leads, IsSettled}
use Rattle.token_reader.specs.Standing.{IsWhole, StandsIn, wanted}
use Rattle.token_reader.specs.Parts.{IsSource, StartsWith}
use Rattle.fir_expr.specs.declared.literals.Head.{Head}
use Rattle.fir_expr.specs.declared.literals.Head.TheVariants as head

-- The symbols were read; their brackets have closed, and each name that is new has taken a token.
pub record HasPassed (major : ℕ) (symbols : List Symbol) (text : List ℕ) (list : List Laid) (i : ℕ) (names : List (List ℕ)) (vs : Values symbols) (j : ℕ) (after : List (List ℕ)) : Type 0 where
  pub read : HasRead major symbols text list i names vs j after
  pub whole : IsWhole (pieces_of text list) i j
  pub room : wanted after list j ≤ wanted names list i

-- an expression may begin at the place, where so many brackets are open, and there is room for the names that follow
pub record MayBegin (text : List ℕ) (list : List Laid) (names : List (List ℕ)) (at brackets : ℕ) : Type 0 where
  pub source : IsSource text list
  pub room : wanted names list at < 2 ^ 32 - 1
  pub stands : StandsIn (pieces_of text list) at brackets

-- what a reader of one rule answers, with the place behind it
abbrev pub Answers : ℕ → (r : Rule) → List ℕ → List Laid → ℕ → List (List ℕ) → Result (Tree r × ℕ) ParseFault → List (List ℕ) → Type 0
Answers major r text list i names (Ok x) after = HasPassed major (A r ∷ []) text list i names (x.0, tt) x.1 after
Answers major r text list i names (Err fault) after = IsRefused (A r ∷ []) text list i fault

-- at the place i the rule goes on by this case, whatever stands behind it
pub record GoesInto {r : Rule} {body : List Symbol} (case : IsCase r body) (text : List ℕ) (list : List Laid) (i : ℕ) : Type 0 where
  pub into : (rest : List Symbol) → IsSettled (A r ∷ rest) → Leads (pieces_of text list) (A r ∷ rest) i (body ++ rest) i

-- the word that a literal begins with
abbrev pub kind_name : Kind → List ℕ
kind_name sign.Unsigned = codes "UInt"
kind_name sign.Signed = codes "SInt"

-- what a head says of the pieces that stand there
abbrev pub IsHeadAt : Head → List ℕ → List Laid → ℕ → Type 0
IsHeadAt head.Component text list i = GoesInto a_reference text list i
IsHeadAt head.Mux text list i = StartsWith (The_call (codes "mux")) text list i
IsHeadAt (head.Literal kind) text list i = StartsWith (The_call (kind_name kind)) text list i
IsHeadAt (head.WideLiteral kind) text list i = StartsWith (The_word (kind_name kind)) text list i × StartsWith (The_mark 60) text list (i + 1)
IsHeadAt (head.Operation prim) text list i = IsWritten prim × StartsWith (The_call (name_of prim)) text list i
