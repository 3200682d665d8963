-- A turn of the loops over the pieces of a format and over the items of a row.
use Rattle.std.proofs.Common.{◌≡◌, ℕ, ◌+◌, ◌-◌, ◌<◌, ◌≤◌, List, [], ◌∷◌, ◌++◌, length, get_or, take, drop, map, sum, Bor, Option, Some, None, refl, sym, ap, ◌∙◌, subst, append_assoc, add-one, drop-cons, length-drop, arith}
use Rattle.std.proofs.lemmas.Grind.{common_steps}
use Rattle.bit_words.specs.declared.value.Value.{Value}
use Rattle.fir_tree.specs.declared.print.Piece.{Piece}
use Rattle.fir_tree.specs.declared.print.Piece.TheVariants.{Bytes, Show}
use Rattle.fir_tree.specs.declared.print.Radix.{Radix}
use Rattle.fir_tree.specs.declared.print.PrintItem.{PrintItem}
use Rattle.item_lines.specs.Formats.{shows}
use Rattle.print_stop.specs.Printed.{shown, printed}
use Rattle.print_stop.specs.Logging.{places, own_text, own_code, items_text, items_code, first_of, IsLogRow}

pub next_of : {A : Type 0} (xs : List A) (i : ℕ) (x : A) → i < length xs → drop i xs ≡ get_or xs i x ∷ drop (i + 1) xs
next_of xs i x within = rw (add-one, drop-cons xs i x) refl

pub none_left : {A : Type 0} (xs : List A) (i : ℕ) → length xs ≤ i → drop i xs ≡ []
none_left xs i past = grind (arith, common_steps)

nothing_behind : (xs : List ℕ) → xs ++ [] ≡ xs
nothing_behind [] = refl
nothing_behind (x ∷ xs) = ap (λ (ys : List ℕ). x ∷ ys) (nothing_behind xs)

pub record AtPiece (pieces : List Piece) (values : List Value) (i next : ℕ) (old new : List ℕ) : Type 0 where
  pub text : old ++ printed pieces values ≡ new ++ printed (drop i pieces) (drop next values)
  pub count : next + shows (drop i pieces) ≡ length values

module _ (pieces : List Piece) (values : List Value) (old : List ℕ) where
  pub at_first : length values ≡ shows pieces → AtPiece pieces values 0 0 old old
  at_first h = record { text = refl; count = omega (arith, h) }

  pub behind_bytes : (i next : ℕ) (new newer text : List ℕ) → i < length pieces → AtPiece pieces values i next old new → get_or pieces i (Bytes text) ≡ Bytes text → newer ≡ new ++ text
      → AtPiece pieces values (i + 1) next old newer
  behind_bytes i next new newer text within h is grown =
      let at : drop i pieces ≡ Bytes text ∷ drop (i + 1) pieces = next_of pieces i (Bytes text) within ∙ ap (λ (p : Piece). p ∷ drop (i + 1) pieces) is in
      record {
        text = h.text ∙ ap (λ (ps : List Piece). new ++ printed ps (drop next values)) at ∙ sym (append_assoc new text (printed (drop (i + 1) pieces) (drop next values)))
            ∙ ap (λ (xs : List ℕ). xs ++ printed (drop (i + 1) pieces) (drop next values)) (sym grown);
        count = ap (λ (ps : List Piece). next + shows ps) (sym at) ∙ h.count;
      }

  pub value_is_there : (i next : ℕ) (new : List ℕ) (radix : Radix) → i < length pieces → AtPiece pieces values i next old new → get_or pieces i (Show radix) ≡ Show radix → next < length values
  value_is_there i next new radix within h is =
      let at : drop i pieces ≡ Show radix ∷ drop (i + 1) pieces = next_of pieces i (Show radix) within ∙ ap (λ (p : Piece). p ∷ drop (i + 1) pieces) is in
      let count : next + (shows (drop (i + 1) pieces) + 1) ≡ length values = ap (λ (ps : List Piece). next + shows ps) (sym at) ∙ h.count in omega arith

  pub behind_value : (i next : ℕ) (new newer : List ℕ) (radix : Radix) (v : Value) → i < length pieces → AtPiece pieces values i next old new → get_or pieces i (Show radix) ≡ Show radix
      → v ≡ get_or values next v → newer ≡ new ++ shown radix v → AtPiece pieces values (i + 1) (next + 1) old newer
  behind_value i next new newer radix v within h is here grown =
      let at : drop i pieces ≡ Show radix ∷ drop (i + 1) pieces = next_of pieces i (Show radix) within ∙ ap (λ (p : Piece). p ∷ drop (i + 1) pieces) is in
      let there : next < length values = value_is_there i next new radix within h is in
      let value : drop next values ≡ v ∷ drop (next + 1) values = next_of values next v there ∙ ap (λ (x : Value). x ∷ drop (next + 1) values) (sym here) in
      let count : next + (shows (drop (i + 1) pieces) + 1) ≡ length values = ap (λ (ps : List Piece). next + shows ps) (sym at) ∙ h.count in
      record {
        text = h.text ∙ ap (λ (ps : List Piece). new ++ printed ps (drop next values)) at ∙ ap (λ (vs : List Value). new ++ printed (Show radix ∷ drop (i + 1) pieces) vs) value
            ∙ sym (append_assoc new (shown radix v) (printed (drop (i + 1) pieces) (drop (next + 1) values))) ∙ ap (λ (xs : List ℕ). xs ++ printed (drop (i + 1) pieces) (drop (next + 1) values)) (sym grown);
        count = omega arith;
      }

  pub behind_all : (i next : ℕ) (new : List ℕ) → length pieces ≤ i → AtPiece pieces values i next old new → new ≡ old ++ printed pieces values
  behind_all i next new past h = sym (h.text ∙ ap (λ (ps : List Piece). new ++ printed ps (drop next values)) (none_left pieces i past) ∙ nothing_behind new)

-- the values that are counted
pub counted_bytes : (pieces : List Piece) (i count : ℕ) (text : List ℕ) → i < length pieces → get_or pieces i (Bytes text) ≡ Bytes text → count + shows (drop i pieces) ≡ shows pieces
    → count + shows (drop (i + 1) pieces) ≡ shows pieces
counted_bytes pieces i count text within is h =
    let at : drop i pieces ≡ Bytes text ∷ drop (i + 1) pieces = next_of pieces i (Bytes text) within ∙ ap (λ (p : Piece). p ∷ drop (i + 1) pieces) is in
    ap (λ (ps : List Piece). count + shows ps) (sym at) ∙ h

pub counted_value : (pieces : List Piece) (i count : ℕ) (radix : Radix) → i < length pieces → get_or pieces i (Show radix) ≡ Show radix → count + shows (drop i pieces) ≡ shows pieces
    → count + 1 + shows (drop (i + 1) pieces) ≡ shows pieces
counted_value pieces i count radix within is h =
    let at : drop i pieces ≡ Show radix ∷ drop (i + 1) pieces = next_of pieces i (Show radix) within ∙ ap (λ (p : Piece). p ∷ drop (i + 1) pieces) is in
    let here : count + (shows (drop (i + 1) pieces) + 1) ≡ shows pieces = ap (λ (ps : List Piece). count + shows ps) (sym at) ∙ h in omega arith

pub counted_all : (pieces : List Piece) (i count : ℕ) → length pieces ≤ i → count + shows (drop i pieces) ≡ shows pieces → count ≡ shows pieces
counted_all pieces i count past h = let here : count + 0 ≡ shows pieces = ap (λ (ps : List Piece). count + shows ps) (sym (none_left pieces i past)) ∙ h in omega arith

-- The items of a row

abbrev pub seen_items : List (Bor PrintItem) → List PrintItem
seen_items items = map (λ (item : Bor PrintItem). item.now) items

pub record AtItem (items : List (Bor PrintItem)) (row : List Value) (i : ℕ) (rest : List Value) (old new : List ℕ) : Type 0 where
  pub texts : old ++ items_text (seen_items items) row ≡ new ++ items_text (seen_items (drop i items)) rest
  pub fits : IsLogRow (seen_items (drop i items)) rest

pub record AtCode (items : List (Bor PrintItem)) (row : List Value) (i : ℕ) (rest : List Value) : Type 0 where
  pub code : items_code (seen_items items) row ≡ items_code (seen_items (drop i items)) rest
  pub fits : IsLogRow (seen_items (drop i items)) rest
