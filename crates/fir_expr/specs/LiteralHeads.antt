-- What the words before a `(` or a `<` say an expression is (FIRRTL specification 3.0, "Expressions").
use Rattle.std.specs.Prelude.{◌≡◌, ℕ, List, ◌++◌, codes}
use Rattle.bit_words.specs.declared.value.Kind.{Kind}
use Rattle.prim_ops.specs.declared.operation.PrimOp.{PrimOp}
use Rattle.prim_ops.specs.Operations.{name_of, IsWritten}
use Rattle.fir_layout.specs.Pieces.{Piece}
use Rattle.fir_grammar.specs.Grammar.{The_mark, Takes}
use Rattle.fir_expr.specs.declared.literals.Head.{Head}
use Rattle.fir_expr.specs.declared.literals.Head.TheVariants as head
use Rattle.fir_expr.specs.Parts.{kind_name}

-- the word names neither `mux`, nor a kind, nor an operation
pub record NamesNothing (word : List ℕ) : Type 0 where
  pub no_mux : ¬ (word ≡ codes "mux")
  pub no_unsigned : ¬ (word ≡ codes "UInt")
  pub no_signed : ¬ (word ≡ codes "SInt")
  pub no_operation : (prim : PrimOp) → IsWritten prim → ¬ (word ≡ name_of prim)

-- what a word before a `(` says
abbrev pub IsHeadOfWord : List ℕ → Head → Type 0
IsHeadOfWord word head.Component = NamesNothing word
IsHeadOfWord word head.Mux = word ≡ codes "mux"
IsHeadOfWord word (head.Literal kind) = word ≡ kind_name kind
IsHeadOfWord word (head.WideLiteral kind) = ⊥
IsHeadOfWord word (head.Operation prim) = IsWritten prim × (word ≡ name_of prim)

-- what a word with its `(` says
abbrev pub IsHeadOfCall : List ℕ → Head → Type 0
IsHeadOfCall call head.Component = (word : List ℕ) → call ≡ word ++ codes "(" → NamesNothing word
IsHeadOfCall call head.Mux = call ≡ codes "mux" ++ codes "("
IsHeadOfCall call (head.Literal kind) = call ≡ kind_name kind ++ codes "("
IsHeadOfCall call (head.WideLiteral kind) = ⊥
IsHeadOfCall call (head.Operation prim) = IsWritten prim × (call ≡ name_of prim ++ codes "(")

-- what a word that names a kind says before this piece
abbrev pub IsHeadBefore : Kind → Piece → Head → Type 0
IsHeadBefore kind next head.Component = ¬ (Takes (The_mark 60) next)
IsHeadBefore kind next (head.WideLiteral same) = (same ≡ kind) × Takes (The_mark 60) next
IsHeadBefore kind next _ = ⊥
