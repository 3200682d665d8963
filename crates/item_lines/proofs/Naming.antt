-- Names that are added are those of the definitions, where no text stands twice.
use Rattle.std.proofs.Common.{◌≡◌, ℕ, ◌+◌, ◌<◌, Bool, true, false, List, [], ◌∷◌, ◌++◌, length, slice_get, Some, if◌then◌else◌, ◌⊎◌, inl, inr, ⊎_elim, refl, sym, ap, ◌∙◌, Contains, bytes_eq, length-append, arith, add-one}
use Rattle.std.proofs.lemmas.List.{get_or_append_left}
use Rattle.std.proofs.lemmas.Option.{slice_get_within, get_or_from_slice_get, slice_get-get_or}
use Rattle.std.proofs.lemmas.Slice.Eq.{bytes_eq-Decides}
use Rattle.std.proofs.lemmas.List.Elements.{Contains-append_cases, Contains-append_right}
use Rattle.place_text.specs.declared.place.Place.{Place}
use Rattle.fir_types.specs.declared.name.Name.{Name}
use Rattle.fir_tree.specs.Numbered.{AddsName, IsDistinct}
use Rattle.fir_tree.proofs.Distinct.{names_agree}
use Rattle.item_lines.specs.Items.{with_name, number_in}
use Rattle.item_lines.specs.Naming.{Keeps, IsNamed}

only_one : (x y : List ℕ) → Contains (x ∷ []) y → x ≡ y
only_one x y (i, lt, e) = let zero_is : i ≡ 0 = omega arith in rw zero_is at e

-- the text stands there already, or is added at the end
abbrev Adding : List (List ℕ) → List ℕ → Type 0
Adding xs t = (Contains xs t × (with_name xs t ≡ xs)) ⊎ ((¬ (Contains xs t)) × (with_name xs t ≡ xs ++ t ∷ []))

adding : (xs : List (List ℕ)) (t : List ℕ) → Adding xs t
adding [] t = inr ((λ c. let within : c.0 < 0 = c.1 in omega arith), refl)
adding (x ∷ xs) t = by (bytes_eq x t) refl (adding xs t)
  where
    by : (b : Bool) → bytes_eq x t ≡ b → Adding xs t
        → (Contains (x ∷ xs) t × ((if b then x ∷ xs else x ∷ with_name xs t) ≡ x ∷ xs)) ⊎ ((¬ (Contains (x ∷ xs) t)) × ((if b then x ∷ xs else x ∷ with_name xs t) ≡ x ∷ (xs ++ t ∷ [])))
    by true e h = inl ((0, omega arith, (bytes_eq-Decides x t).0 e), refl)
    by false e (inl (c, is)) = inl (Contains-append_right (x ∷ []) xs t c, ap (λ (ys : List (List ℕ)). x ∷ ys) is)
    by false e (inr (none, is)) = inr (
      (λ c.
          ⊎_elim (λ one. let same : bytes_eq x t ≡ true = (bytes_eq-Decides x t).1 (only_one x t one) in cc) (λ more. none more) (Contains-append_cases (x ∷ []) xs t c)),
      ap (λ (ys : List (List ℕ)). x ∷ ys) is,
    )

same_text : (t : List ℕ) → bytes_eq t t ≡ true
same_text t = (bytes_eq-Decides t t).1 refl

number_at : (xs : List (List ℕ)) (t : List ℕ) → slice_get (with_name xs t) (number_in (with_name xs t) t) ≡ Some t
number_at [] t = rw (same_text t) refl
number_at (x ∷ xs) t = by (bytes_eq x t) refl (number_at xs t)
  where
    further : (ys : List (List ℕ)) (n : ℕ) → slice_get (x ∷ ys) (n + 1) ≡ slice_get ys n
    further ys n = rw add-one refl

    by : (b : Bool) → bytes_eq x t ≡ b → slice_get (with_name xs t) (number_in (with_name xs t) t) ≡ Some t → slice_get (if b then x ∷ xs else x ∷ with_name xs t) (number_in (if b then x ∷ xs else x ∷ with_name xs t) t) ≡ Some t
    by true e h = rw e (ap Some ((bytes_eq-Decides x t).0 e))
    by false e h = rw e (further (with_name xs t) (number_in (with_name xs t) t) ∙ h)

with_name_adds : (xs : List (List ℕ)) (t : List ℕ) → AddsName xs (with_name xs t) t (number_in (with_name xs t) t)
with_name_adds xs t = by (adding xs t)
  where
    by : Adding xs t → AddsName xs (with_name xs t) t (number_in (with_name xs t) t)
    by (inl (c, is)) = record { known = λ _. is; added = λ none. absurd (none c); number = number_at xs t }
    by (inr (none, is)) = record { known = λ c. absurd (none c); added = λ _. is; number = number_at xs t }

-- where no text stands twice, an added name is that of the definition
pub is_named : (old new : List (List ℕ)) (t : List ℕ) (id : ℕ) (at : Place) → AddsName old new t id → IsDistinct old → IsNamed old new t at (record { id = id; place = at })
is_named old new t id at a distinct =
    let h = names_agree old new (with_name old t) t id (number_in (with_name old t) t) distinct a (with_name_adds old t) in
    record { texts = h.names; is = ap (λ (n : ℕ). let name : Name = record { id = n; place = at } in name) (h.number ∙ ap (λ (ys : List (List ℕ)). number_in ys t) (sym h.names)); distinct = h.distinct }

kept_before : (xs ys : List (List ℕ)) → Keeps xs (xs ++ ys)
kept_before xs ys id t h =
    let within : id < length xs = slice_get_within xs id t h in
    let longer : length (xs ++ ys) ≡ length xs + length ys = length-append xs ys in
    let there : id < length (xs ++ ys) = omega arith in
    slice_get-get_or (xs ++ ys) id t there ∙ ap Some (get_or_append_left xs ys t id within ∙ get_or_from_slice_get xs id t t h)

-- no text changes its number
pub names_kept : (old new : List (List ℕ)) (t : List ℕ) (id : ℕ) → AddsName old new t id → Keeps old new
names_kept old new t id a = by (adding old t)
  where
    by : Adding old t → Keeps old new
    by (inl (c, is)) i s h = rw (a.known c) h
    by (inr (none, is)) i s h = rw (a.added none) (kept_before old (t ∷ []) i s h)

pub kept_twice : (first second third : List (List ℕ)) → Keeps first second → Keeps second third → Keeps first third
kept_twice first second third f g id t h = g id t (f id t h)
