-- Which case a rule enters, from the pieces that stand there.
use Rattle.std.proofs.Common.{◌≡◌, ℕ, Bool, true, false, List, ◌∷◌, slice_get, Some, refl, eqb, eq-eqb, eqb→eq}
use Rattle.fir_lexer.specs.declared.token.TokenKind.TheVariants as kind
use Rattle.fir_layout.specs.declared.laid.Laid.{Laid}
use Rattle.fir_layout.specs.Pieces.{Piece, A_token, piece_of, pieces_of}
use Rattle.fir_grammar.specs.Grammar.{The_mark, Takes, last_length, next_length, no_width, a_width}
use Rattle.fir_grammar.proofs.Cases.{starts_mark}
use Rattle.token_reader.proofs.Composition.{Enters, enters_by_piece, piece_at}

-- tests of a first piece

pub is_mark_first : (m : ℕ) (p : Piece) (ps : List Piece) → Takes (The_mark m) p → starts_mark m (p ∷ ps) ≡ true
is_mark_first m (A_token (kind.Mark n) bytes) ps same = eq-eqb n m same
is_mark_first m _ ps none = absurd none

no_mark_test : (n m : ℕ) (b : Bool) → ¬ (n ≡ m) → eqb n m ≡ b → eqb n m ≡ false
no_mark_test n m true none e = absurd (none (eqb→eq n m (rw e tt)))
no_mark_test n m false none e = e

pub no_mark_first : (m : ℕ) (p : Piece) (ps : List Piece) → ¬ (Takes (The_mark m) p) → starts_mark m (p ∷ ps) ≡ false
no_mark_first m (A_token (kind.Mark n) bytes) ps none = no_mark_test n m (eqb n m) none refl
no_mark_first m _ ps none = refl

-- widths

module _ (text : List ℕ) (list : List Laid) (i : ℕ) (l : Laid) (h : slice_get list i ≡ Some l) where
  pub enters_width : Takes (The_mark 60) (piece_of text l) → Enters (pieces_of text list) i a_width
  enters_width t = enters_by_piece (pieces_of text list) i a_width (piece_of text l) (piece_at text list i l h) (λ ps. rw (is_mark_first 60 (piece_of text l) ps t) refl)

  pub enters_no_width : ¬ (Takes (The_mark 60) (piece_of text l)) → Enters (pieces_of text list) i no_width
  enters_no_width t = enters_by_piece (pieces_of text list) i no_width (piece_of text l) (piece_at text list i l h) (λ ps. rw (no_mark_first 60 (piece_of text l) ps t) refl)

  pub enters_length : Takes (The_mark 91) (piece_of text l) → Enters (pieces_of text list) i next_length
  enters_length t = enters_by_piece (pieces_of text list) i next_length (piece_of text l) (piece_at text list i l h) (λ ps. rw (is_mark_first 91 (piece_of text l) ps t) refl)

  pub enters_last_length : ¬ (Takes (The_mark 91) (piece_of text l)) → Enters (pieces_of text list) i last_length
  enters_last_length t = enters_by_piece (pieces_of text list) i last_length (piece_of text l) (piece_at text list i l h) (λ ps. rw (no_mark_first 91 (piece_of text l) ps t) refl)
