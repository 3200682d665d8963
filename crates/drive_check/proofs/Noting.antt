-- Notes of one type more, and steps of references.
use Rattle.std.proofs.Common.{◌≡◌, ℕ, zero, suc, List, [], ◌∷◌, ◌++◌, length, refl, sym, ap, ◌∙◌, subst, Option, Some, slice_get, unwrap_or, ◌⊎◌, inl, inr, ⊎_elim, true≢false}
use Rattle.std.specs.Prelude.{is_some, option_map, find, ◌==◌}
use Rattle.fir_types.specs.declared.fir_type.FirType.{FirType}
use Rattle.fir_types.specs.declared.fir_type.Field.{Field}
use Rattle.fir_types.specs.declared.fir_type.Shape.{Shape}
use Rattle.fir_types.specs.declared.fir_type.Shape.TheOpen.{Shape-F}
use Rattle.fir_types.specs.declared.fir_type.Shape.TheViews.{out-Shape}
use Rattle.fir_meaning.specs.Values.{field_type, element_type, field_of_shape, element_of_shape, or_itself}
use Rattle.field_tables.specs.Fits.{fields_in, element_in}
use Rattle.drive_check.specs.declared.noted.Note.{Note}
use Rattle.drive_check.specs.Noted.{IsNote, AreNoted}

some_same : {X : Type 0} (x y : X) → Some x ≡ Some y → x ≡ y
some_same x y e = ap (λ o. unwrap_or o x) e

-- what a list with one more at its end holds
at_end : {X : Type 0} (xs : List X) (x y : X) (i : ℕ) → slice_get (xs ++ x ∷ []) i ≡ Some y → (slice_get xs i ≡ Some y) ⊎ ((i ≡ length xs) × (x ≡ y))
at_end [] x y zero e = inr (refl, some_same x y e)
at_end [] x y (suc i) e = absurd (true≢false (sym (ap is_some e)))
at_end (z ∷ zs) x y zero e = inl e
at_end (z ∷ zs) x y (suc i) e = ⊎_elim (λ l. inl l) (λ r. inr (ap suc r.0, r.1)) (at_end zs x y i e)

pub none_noted : (types : List FirType) → AreNoted types []
none_noted types i typ note at is = absurd (true≢false (sym (ap is_some is)))

pub noted_more : (types : List FirType) (notes after : List Note) (k : ℕ) (own : FirType) (one : Note) → AreNoted types notes → length notes ≡ k
    → slice_get types k ≡ Some own → IsNote own one → after ≡ notes ++ one ∷ [] → AreNoted types after
noted_more types notes after k own one h counted at new grown i typ note at_type at_note =
    ⊎_elim (λ l. h i typ note at_type l)
    (λ r. subst (λ t. IsNote t note) (some_same own typ (sym at ∙ ap (slice_get types) (sym (r.0 ∙ counted)) ∙ at_type))
    (subst (IsNote own) r.1 new))
    (at_end notes one note i (ap (λ l. slice_get l i) (sym grown) ∙ at_note))

-- the field of a name is the first of the fields, and the element that of a vector

field_by : (id : ℕ) (s : Shape-F Shape Field FirType) → field_of_shape id s ≡ option_map (λ f. f.typ) (find (λ f. f.name.id == id) (fields_in s))
field_by id (Shape-F.Bundle fields) = refl
field_by id (Shape-F.Vector element length) = refl
field_by id (Shape-F.Unsigned w) = refl
field_by id (Shape-F.Signed w) = refl
field_by id Shape-F.Clock = refl
field_by id Shape-F.Reset = refl
field_by id Shape-F.AsyncReset = refl

element_by : (s : Shape-F Shape Field FirType) → element_of_shape s ≡ element_in s
element_by (Shape-F.Bundle fields) = refl
element_by (Shape-F.Vector element length) = refl
element_by (Shape-F.Unsigned w) = refl
element_by (Shape-F.Signed w) = refl
element_by Shape-F.Clock = refl
element_by Shape-F.Reset = refl
element_by Shape-F.AsyncReset = refl

pub field_there : (typ : FirType) (id : ℕ) (found : Option FirType) → found ≡ option_map (λ f. f.typ) (find (λ f. f.name.id == id) (fields_in (out-Shape typ.shape)))
    → or_itself typ found ≡ field_type id typ
field_there typ id found h = ap (or_itself typ) (h ∙ sym (field_by id (out-Shape typ.shape)))

pub element_there : (typ : FirType) (found : Option FirType) → found ≡ element_in (out-Shape typ.shape) → or_itself typ found ≡ element_type typ
element_there typ found h = ap (or_itself typ) (h ∙ sym (element_by (out-Shape typ.shape)))
