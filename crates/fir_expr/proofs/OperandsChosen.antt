-- Which case of a rule is chosen by the first pieces of operations and references.
use Rattle.std.proofs.Common.{◌≡◌, ℕ, suc, ◌+◌, true, false, List, [], ◌∷◌, codes, slice_get, Some, refl}
use Rattle.std.proofs.Math.Path.{Path}
use Rattle.fir_lexer.specs.declared.token.TokenKind.TheVariants as kind
use Rattle.fir_layout.specs.declared.laid.Laid.{Laid}
use Rattle.fir_layout.specs.Pieces.{Piece, A_token, piece_of, pieces_of}
use Rattle.prim_ops.specs.declared.operation.PrimOp.{PrimOp}
use Rattle.prim_ops.specs.Operations.{name_of, IsWritten}
use Rattle.fir_grammar.specs.Grammar.{The_call, The_mark, Takes, Its_place, Symbol, Is, A, IsCase, Derives, mark, Expression, Expressions, Reference, Suffixes, cut, takes_on, a_mux, an_operation, no_more_expressions, one_more_expression, a_component, no_suffix, a_field_suffix, an_element_suffix, an_index_suffix, name}
use Rattle.fir_grammar.specs.Reading.{IsSettled}
use Rattle.fir_grammar.proofs.Cases.{choose, starts_digits, operation_chosen}
use Rattle.fir_grammar.proofs.Empty.{empty_rule}
use Rattle.fir_grammar.proofs.ReadingLaws.{Derives-taken, derived_chosen, chosen_alone, never_alone}
use Rattle.token_reader.specs.Parts.{StartsWith}
use Rattle.fir_expr.specs.Operands.{IsDigits, HasDigits, HasNoDigits}
use Rattle.fir_expr.proofs.Choices.{no_mark_first}
use Rattle.token_reader.proofs.Composition.{Enters, enters_by_piece, enters_by_two, enters_always, piece_at}

none_case : (other : List Symbol) → IsCase (Expressions 0) other → Path (List Symbol) other []
none_case _ no_more_expressions = refl

more_case : (n : ℕ) (other : List Symbol) → IsCase (Expressions (suc n)) other → Path (List Symbol) other (A Expression ∷ A (Expressions n) ∷ [])
more_case n _ (one_more_expression _) = refl

component_case : (other : List Symbol) → IsCase Reference other → Path (List Symbol) other (name ∷ A Suffixes ∷ [])
component_case _ a_component = refl

pub enters_none : (pieces : List Piece) (i : ℕ) → Enters pieces i no_more_expressions
enters_none pieces i = enters_always pieces i no_more_expressions none_case

pub enters_more : (pieces : List Piece) (i n : ℕ) → Enters pieces i (one_more_expression n)
enters_more pieces i n = enters_always pieces i (one_more_expression n) (more_case n)

pub enters_component : (pieces : List Piece) (i : ℕ) → Enters pieces i a_component
enters_component pieces i = enters_always pieces i a_component component_case

-- operations and `mux(`

operation_piece : (prim : PrimOp) (written : IsWritten prim) (p : Piece) → Takes (The_call (name_of prim)) p → (ps : List Piece) → choose Expression (p ∷ ps) ≡ Some (_, an_operation prim written)
operation_piece prim written (A_token kind.Call bytes) same ps = rw same (operation_chosen prim written ps)
operation_piece prim written _ none ps = absurd none

mux_piece : (p : Piece) → Takes (The_call (codes "mux")) p → (ps : List Piece) → choose Expression (p ∷ ps) ≡ Some (_, a_mux)
mux_piece (A_token kind.Call bytes) same ps = rw same refl
mux_piece _ none ps = absurd none

-- suffixes

no_suffix_piece : (p : Piece) → ¬ (Takes (The_mark 46) p) → ¬ (Takes (The_mark 91) p) → (ps : List Piece) → choose Suffixes (p ∷ ps) ≡ Some (_, no_suffix)
no_suffix_piece p no_dot no_bracket ps = rw (no_mark_first 46 p ps no_dot, no_mark_first 91 p ps no_bracket) refl

field_piece : (p : Piece) → Takes (The_mark 46) p → (ps : List Piece) → choose Suffixes (p ∷ ps) ≡ Some (_, a_field_suffix)
field_piece (A_token (kind.Mark n) bytes) same ps = rw same refl
field_piece _ none ps = absurd none

is_number_first : (q : Piece) (ps : List Piece) → IsDigits q → starts_digits (q ∷ ps) ≡ true
is_number_first (A_token kind.Digits bytes) ps is = refl
is_number_first _ ps none = absurd none

no_number_first : (q : Piece) (ps : List Piece) → ¬ (IsDigits q) → starts_digits (q ∷ ps) ≡ false
no_number_first (A_token kind.Digits bytes) ps none = absurd (none tt)
no_number_first _ ps none = refl

element_piece : (p q : Piece) → Takes (The_mark 91) p → IsDigits q → (ps : List Piece) → choose Suffixes (p ∷ q ∷ ps) ≡ Some (_, an_element_suffix)
element_piece (A_token (kind.Mark n) bytes) q same is ps = rw (same, is_number_first q ps is) refl
element_piece _ q none is ps = absurd none

index_piece : (p q : Piece) → Takes (The_mark 91) p → ¬ (IsDigits q) → (ps : List Piece) → choose Suffixes (p ∷ q ∷ ps) ≡ Some (_, an_index_suffix)
index_piece (A_token (kind.Mark n) bytes) q same is ps = rw (same, no_number_first q ps is) refl
index_piece _ q none is ps = absurd none

index_alone : (p : Piece) → Takes (The_mark 91) p → choose Suffixes (p ∷ []) ≡ Some (_, an_index_suffix)
index_alone (A_token (kind.Mark n) bytes) same = rw same refl
index_alone _ none = absurd none

-- no suffix is a `[` alone
bracket_never_alone : (p : Piece) → Takes (The_mark 91) p → (rest : List Symbol) → IsSettled (A Suffixes ∷ rest) → ¬ (Derives (A Suffixes ∷ rest) (p ∷ []))
bracket_never_alone p takes rest settled d = no_expression (derived_chosen Suffixes _ an_index_suffix rest (p ∷ []) settled (index_alone p takes) d)
  where
    no_expression : Derives (Is Its_place (The_mark 91) ∷ A Expression ∷ mark 93 ∷ A Suffixes ∷ rest) (p ∷ []) → ⊥
    no_expression d = elim (empty_rule (Derives-taken d)).0 [ ]

pub enters_no_suffix : (text : List ℕ) (list : List Laid) (i : ℕ) (l : Laid) → slice_get list i ≡ Some l → ¬ (Takes (The_mark 46) (piece_of text l)) → ¬ (Takes (The_mark 91) (piece_of text l)) → Enters (pieces_of text list) i no_suffix
enters_no_suffix text list i l h a b = enters_by_piece (pieces_of text list) i no_suffix (piece_of text l) (piece_at text list i l h) (no_suffix_piece (piece_of text l) a b)

module _ {text : List ℕ} {list : List Laid} {i : ℕ} where
  pub enters_mux : StartsWith (The_call (codes "mux")) text list i → Enters (pieces_of text list) i a_mux
  enters_mux h = enters_by_piece (pieces_of text list) i a_mux (piece_of text h.part) (piece_at text list i h.part h.here) (mux_piece (piece_of text h.part) h.takes)

  pub enters_operation : (prim : PrimOp) (written : IsWritten prim) → StartsWith (The_call (name_of prim)) text list i → Enters (pieces_of text list) i (an_operation prim written)
  enters_operation prim written h =
      enters_by_piece (pieces_of text list) i (an_operation prim written) (piece_of text h.part) (piece_at text list i h.part h.here) (operation_piece prim written (piece_of text h.part) h.takes)

  pub enters_field : StartsWith (The_mark 46) text list i → Enters (pieces_of text list) i a_field_suffix
  enters_field h = enters_by_piece (pieces_of text list) i a_field_suffix (piece_of text h.part) (piece_at text list i h.part h.here) (field_piece (piece_of text h.part) h.takes)

  pub enters_element : StartsWith (The_mark 91) text list i → HasDigits text list (i + 1) → Enters (pieces_of text list) i an_element_suffix
  enters_element h g = enters_by_two (pieces_of text list) i an_element_suffix (piece_of text h.part) (piece_of text g.part) (piece_at text list i h.part h.here) (piece_at text list (i + 1) g.part g.here)
      (λ rest. takes_on h.takes cut) (element_piece (piece_of text h.part) (piece_of text g.part) h.takes g.is) (never_alone (bracket_never_alone (piece_of text h.part) h.takes))

  pub enters_index : StartsWith (The_mark 91) text list i → HasNoDigits text list (i + 1) → Enters (pieces_of text list) i an_index_suffix
  enters_index h g = enters_by_two (pieces_of text list) i an_index_suffix (piece_of text h.part) (piece_of text g.part) (piece_at text list i h.part h.here) (piece_at text list (i + 1) g.part g.here)
      (λ rest. takes_on h.takes cut) (index_piece (piece_of text h.part) (piece_of text g.part) h.takes g.none) (chosen_alone (index_alone (piece_of text h.part) h.takes))
