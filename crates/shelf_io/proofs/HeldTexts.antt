-- Reads over memory.
use Rattle.std.proofs.Common.{◌≡◌, ℕ, ◌+◌, ◌<◌, min, List, [], ◌∷◌, ◌++◌, length, take, drop, true, refl, ap, ◌∙◌, sym, arith, get_or, slice_get, take_at, take-append-drop, ⊎_elim}
use Rattle.std.specs.Prelude.{Some, None, string_bytes}
use Rattle.std.specs.Str.{bytes_eq}
use Rattle.std.proofs.lemmas.Grind.{common_steps}
use Rattle.std.proofs.lemmas.List.{drop_min}
use Rattle.std.proofs.lemmas.Option.{slice_get_read, slice_get_cases}
use Rattle.shelf_io.specs.HeldTexts.{NamedText, text_of, left_of, has_name}

-- what one read takes of a text
pub read_splits : (all buf : List ℕ) (at start count step : ℕ) → start ≡ min at (length all) → count ≡ min (min (length (drop start all)) (length buf)) step
    → drop at all ≡ take count (take count (drop start all) ++ drop count buf) ++ drop (start + count) all
read_splits all buf at start count step s n =
    let x = drop start all in
    let same : drop at all ≡ x = sym (drop_min at all) ∙ ap (λ k. drop k all) (sym s) in
    let full : length (take count x) ≡ count = grind (arith, common_steps) in
    let front : take count (take count x ++ drop count buf) ≡ take count x = take_at (take count x) (drop count buf) count full in
    let past : drop (start + count) all ≡ drop count x = grind (arith, common_steps) in
    let whole : take count x ++ drop count x ≡ x = take-append-drop count x in
    rw (same, front, past, whole) refl

pub read_ends : (all buf : List ℕ) (at start count step : ℕ) → start ≡ min at (length all) → count ≡ min (min (length (drop start all)) (length buf)) step
    → 0 < length buf → 0 < step → count ≡ 0 → drop at all ≡ []
read_ends all buf at start count step s n b m z = grind (arith, common_steps, drop_min at all)

-- the first text of the name stands at the place where the search stopped
pub found_at : (texts : List NamedText) (t : NamedText) (i : ℕ) (name : List ℕ) → i < length texts → t ≡ get_or texts i t → bytes_eq (string_bytes t.0) name ≡ true
    → text_of (drop i texts) name ≡ Some t.1.items
found_at texts t i name h e same =
    let split : drop i texts ≡ t ∷ drop (i + 1) texts = grind (arith, common_steps) in
    rw (split, same) refl

pub found : (texts : List NamedText) (t : NamedText) (i : ℕ) (name : List ℕ) → i < length texts → t ≡ get_or texts i t → bytes_eq (string_bytes t.0) name ≡ true
    → text_of texts name ≡ text_of (drop i texts) name
    → (has_name texts (Some i) name ≡ true) × ((text : List ℕ) × (text_of texts name ≡ Some text) × (left_of texts (Some i) 0 ≡ Some text))
found texts t i name h e same past =
    let here : slice_get texts i ≡ Some t = slice_get_read texts (length texts) i t refl h e in
    (rw here same, (t.1.items, past ∙ found_at texts t i name h e same, rw here refl))

-- a read of an open text
pub read_takes : (texts : List NamedText) (t : NamedText) (i at start count step : ℕ) (buf copied text : List ℕ) → slice_get texts i ≡ Some t
    → start ≡ min at (length t.1.items) → count ≡ min (min (length (drop start t.1.items)) (length buf)) step → 0 < length buf → 0 < step
    → copied ≡ take count (drop start t.1.items) → left_of texts (Some i) at ≡ Some text
    → (rest : List ℕ) × (left_of texts (Some i) (start + count) ≡ Some rest) × (text ≡ take count (copied ++ drop count buf) ++ rest) × (count ≡ 0 → text ≡ [])
read_takes texts t i at start count step buf copied text here s n b m got left =
    let here_left : left_of texts (Some i) at ≡ Some (drop at t.1.items) = rw here refl in
    let is : text ≡ drop at t.1.items = cc in
    (drop (start + count) t.1.items, rw here refl, rw (is, got) (read_splits t.1.items buf at start count step s n), λ z. is ∙ read_ends t.1.items buf at start count step s n b m z)

pub held_within : (texts : List NamedText) (i at : ℕ) (text : List ℕ) → left_of texts (Some i) at ≡ Some text → i < length texts
held_within texts i at text left =
    ⊎_elim (λ found. found.1)
    (λ none. let gone : left_of texts (Some i) at ≡ None = rw none.1 refl in cc)
    (slice_get_cases texts i).1
