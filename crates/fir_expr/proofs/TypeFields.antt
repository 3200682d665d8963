-- Lengths and fields, one behind the other.
use Rattle.std.proofs.Common.{◌≡◌, ℕ, ◌+◌, ◌<◌, ◌≤◌, List, [], ◌∷◌, ◌++◌, length, slice_get, Some, refl, sym, subst, append_assoc, append-nil, arith}
use Rattle.fir_layout.specs.declared.laid.Laid.{Laid}
use Rattle.fir_layout.specs.Pieces.{piece_of, pieces_of}
use Rattle.fir_types.specs.declared.fir_type.Field.{Field as BundleField}
use Rattle.fir_tree.specs.declared.fault.ParseFault.{ParseFault}
use Rattle.fir_types.specs.declared.fir_type.Shape.TheVariants as shape
use Rattle.place_text.specs.Places.{place}
use Rattle.fir_grammar.specs.Grammar.{The_mark, Takes, Nothing, Its_place, A, Base_type, Field, Fields, last_field, next_field, a_bundle, start_of}
use Rattle.fir_grammar.specs.Reading.{HasRead, IsRefused}
use Rattle.fir_grammar.specs.Faults.{most}
use Rattle.token_reader.specs.Standing.{StandsIn, BeginsType, IsWhole, wanted}
use Rattle.token_reader.specs.Parts.{IsTaken, IsNotTaken}
use Rattle.fir_expr.specs.Parts.{GoesInto, HasPassed}
use Rattle.fir_expr.specs.TypeParts.{HasFields}
use Rattle.token_reader.proofs.Composition.{read_then, read_case, refused_first, refused_behind, refused_case, enters_by_piece, Enters, piece_at}
use Rattle.token_reader.proofs.Depth.{whole_then, whole_none}
use Rattle.fir_expr.proofs.Passing.{read_mark, read_placed, room_step}
use Rattle.fir_expr.proofs.Bracketed.{opener_mark, stands_opened, whole_closed, begins_closed}
use Rattle.fir_expr.proofs.Choices.{is_mark_first, no_mark_first}

-- The fields from i on that are read already; others behind them, and a refusal of others, are ones of all of them.
pub record FieldsSoFar (major : ℕ) (text : List ℕ) (list : List Laid) (i : ℕ) (names : List (List ℕ)) (fields : List BundleField) (j : ℕ) (now : List (List ℕ)) : Type 0 where
  pub within : j ≤ length list
  pub whole : IsWhole (pieces_of text list) i j
  pub room : wanted now list j ≤ wanted names list i
  pub finish : {others : List BundleField} {k : ℕ} {after : List (List ℕ)} → HasRead major (A Fields ∷ []) text list j now (others, tt) k after → HasRead major (A Fields ∷ []) text list i names (fields ++ others, tt) k after
  pub refuse : {fault : ParseFault} → IsRefused (A Fields ∷ []) text list j fault → IsRefused (A Fields ∷ []) text list i fault

module _ (text : List ℕ) (list : List Laid) (i : ℕ) (l : Laid) (h : slice_get list i ≡ Some l) where
  enters_last_field : Takes (The_mark 125) (piece_of text l) → Enters (pieces_of text list) i last_field
  enters_last_field t = enters_by_piece (pieces_of text list) i last_field (piece_of text l) (piece_at text list i l h) (λ ps. rw (is_mark_first 125 (piece_of text l) ps t) refl)

  enters_next_field : ¬ (Takes (The_mark 125) (piece_of text l)) → Enters (pieces_of text list) i next_field
  enters_next_field t = enters_by_piece (pieces_of text list) i next_field (piece_of text l) (piece_at text list i l h) (λ ps. rw (no_mark_first 125 (piece_of text l) ps t) refl)

pub no_fields : {major : ℕ} {text : List ℕ} {list : List Laid} {i brackets : ℕ} (names : List (List ℕ)) → StandsIn (pieces_of text list) i brackets → i ≤ length list → FieldsSoFar major text list i names [] i names
no_fields names s within = record { within = within; whole = whole_none s; room = omega arith; finish = λ h. h; refuse = λ h. h }

module _ {major : ℕ} {text : List ℕ} {list : List Laid} {i j : ℕ} {names now : List (List ℕ)} {fields : List BundleField} (so_far : FieldsSoFar major text list i names fields j now) {l : Laid} (here : slice_get list j ≡ Some l) where
  pub more_fields : {field : BundleField} {k : ℕ} {after : List (List ℕ)} → ¬ (Takes (The_mark 125) (piece_of text l)) → HasPassed major (A Field ∷ []) text list j now (field, tt) k after
      → FieldsSoFar major text list i names (fields ++ field ∷ []) k after
  more_fields {field} {k} {after} none h = record {
    within = h.read.within;
    whole = whole_then so_far.whole h.whole;
    room = omega (arith, h.room, so_far.room);
    finish = λ {others} {k = last} {after = ends} g. subst (λ (all : List BundleField). HasRead major (A Fields ∷ []) text list i names (all, tt) last ends) (sym (append_assoc fields (field ∷ []) others))
        (so_far.finish (read_case next_field (enters_next_field text list j l here none) (read_then h.read g)));
    refuse = λ g. so_far.refuse (refused_case next_field (enters_next_field text list j l here none) (refused_behind h.read g));
  }

  pub field_refused : {fault : ParseFault} → ¬ (Takes (The_mark 125) (piece_of text l)) → IsRefused (A Field ∷ []) text list j fault → IsRefused (A Fields ∷ []) text list i fault
  field_refused none g = so_far.refuse (refused_case next_field (enters_next_field text list j l here none) (refused_first (A Fields ∷ []) g))

  pub all_fields : IsTaken (The_mark 125) text list j l → HasFields major text list i names fields (j + 1) now
  all_fields t = record {
    last = j;
    behind = refl;
    part = l;
    close = t;
    read = subst (λ (all : List BundleField). HasRead major (A Fields ∷ []) text list i names (all, tt) (j + 1) now) (append-nil fields)
        (so_far.finish (read_case last_field (enters_last_field text list j l here t.takes) (read_mark now t)));
    whole = so_far.whole;
    room = let step = room_step now list j l here in omega (arith, step, so_far.room);
  }

  pub close_refused : {fault : ParseFault} → Takes (The_mark 125) (piece_of text l) → IsNotTaken (The_mark 125) text list j fault → IsRefused (A Fields ∷ []) text list i fault
  close_refused t r = so_far.refuse (refused_case last_field (enters_last_field text list j l here t) (r.refused Nothing))

-- a bundle

pub bundle_not_opened : {text : List ℕ} {list : List Laid} {i : ℕ} {fault : ParseFault} → GoesInto a_bundle text list i → IsNotTaken (The_mark 123) text list i fault → IsRefused (A Base_type ∷ []) text list i fault
bundle_not_opened g r = refused_case a_bundle (record { into = g.into }) (refused_first (A Fields ∷ []) (r.refused Its_place))

module _ {text : List ℕ} {list : List Laid} {i brackets : ℕ} {l : Laid} (b : BeginsType (pieces_of text list) i brackets) (g : GoesInto a_bundle text list i) (t : IsTaken (The_mark 123) text list i l) where
  pub bundle_stands : brackets < most → StandsIn (pieces_of text list) (i + 1) (brackets + 1)
  bundle_stands few = stands_opened (opener_mark 123 (λ at. refl)) t b.stands few

  pub bundle_no_fields : {fault : ParseFault} → IsRefused (A Fields ∷ []) text list (i + 1) fault → IsRefused (A Base_type ∷ []) text list i fault
  bundle_no_fields r = refused_case a_bundle (record { into = g.into }) (refused_behind (read_placed {major = 3} [] t) r)

  module _ {major : ℕ} {names after : List (List ℕ)} {fields : List BundleField} {j : ℕ} (f : HasFields major text list (i + 1) names fields j after) where
    bundle_ends : HasPassed major (A Base_type ∷ []) text list i names (record { place = place text (start_of l); shape = shape.Bundle fields }, tt) (f.last + 1) after
    bundle_ends = record {
      read = read_case a_bundle (record { into = g.into }) (read_then (read_placed names t) (rw f.behind at f.read));
      whole = whole_closed (opener_mark 123 (λ at. refl)) t (λ at. refl) f.whole f.close b.stands;
      room = let step = room_step names list i l t.here in let all : wanted after list (f.last + 1) ≤ wanted names list (i + 1) = rw f.behind at f.room in omega (arith, step, all);
    }

    pub bundle_read : HasPassed major (A Base_type ∷ []) text list i names (record { place = place text (start_of l); shape = shape.Bundle fields }, tt) j after
    bundle_read = rw f.behind bundle_ends

    pub bundle_begins : BeginsType (pieces_of text list) j brackets
    bundle_begins = rw f.behind (begins_closed (opener_mark 123 (λ at. refl)) t (λ at. refl) f.whole f.close b)
