-- Resolved types by their shapes, and inside runs of vector lengths.
use Rattle.std.proofs.Common.{arith, ◌≡◌, ℕ, ◌+◌, Bool, List, [], ◌∷◌, map, refl, sym, ap, ◌∙◌}
use Rattle.std.proofs.lemmas.Grind.{common_steps}
use Rattle.place_text.specs.declared.place.Place.{Place}
use Rattle.fir_types.specs.declared.fir_type.FirType.{FirType, the_lemmas}
use Rattle.fir_types.specs.declared.fir_type.Shape.{Shape}
use Rattle.fir_types.specs.declared.fir_type.Shape.TheVariants as shape
use Rattle.fir_types.specs.declared.fir_type.Field.{Field}
use Rattle.fir_types.specs.Runs.{within}
use Rattle.reset_search.specs.Resolved.{becomes}
use Rattle.reset_search.specs.Layers.{shape_becomes, field_becomes}

module _ (reached : ℕ → Bool) where
  abbrev vector : Place × ℕ → FirType → FirType
  vector length typ = record { place = length.0; shape = shape.Vector typ length.1 }

  becomes_vector : (length : Place × ℕ) (typ : FirType) (n : ℕ) → (becomes reached (vector length typ)).1 n ≡ vector length ((becomes reached typ).1 n)
  becomes_vector length typ n = grind (arith, common_steps, the_lemmas)

  count_vector : (length : Place × ℕ) (typ : FirType) → (becomes reached (vector length typ)).0 ≡ (becomes reached typ).0
  count_vector length typ = grind (arith, common_steps, the_lemmas)

  becomes_within : (lengths : List (Place × ℕ)) (typ : FirType) (n : ℕ) → (becomes reached (within lengths typ)).1 n ≡ within lengths ((becomes reached typ).1 n)
  becomes_within [] typ n = refl
  becomes_within (length ∷ lengths) typ n = becomes_vector length (within lengths typ) n ∙ ap (vector length) (becomes_within lengths typ n)

  count_within : (lengths : List (Place × ℕ)) (typ : FirType) → (becomes reached (within lengths typ)).0 ≡ (becomes reached typ).0
  count_within [] typ = refl
  count_within (length ∷ lengths) typ = count_vector length (within lengths typ) ∙ count_within lengths typ

  becomes_shape : (typ : FirType) (n : ℕ) → (becomes reached typ).1 n ≡ record { place = typ.place; shape = (shape_becomes reached typ.shape).1 n }
  becomes_shape typ n = grind (arith, common_steps, the_lemmas)

  count_shape : (typ : FirType) → (becomes reached typ).0 ≡ (shape_becomes reached typ.shape).0
  count_shape typ = grind (arith, common_steps, the_lemmas)

  pub becomes_field : (f : Field) (n : ℕ) → (field_becomes reached f).1 n ≡ record { flip = f.flip; name = f.name; typ = (becomes reached f.typ).1 n }
  becomes_field f n = grind (arith, common_steps, the_lemmas)

  pub count_field : (f : Field) → (field_becomes reached f).0 ≡ (becomes reached f.typ).0
  count_field f = grind (arith, common_steps, the_lemmas)

  -- a type inside a run becomes what its shape becomes
  pub becomes_run : (lengths : List (Place × ℕ)) (inside typ whole : FirType) (s : Shape) (n : ℕ) → within lengths inside ≡ typ → s ≡ (shape_becomes reached inside.shape).1 n
      → whole ≡ within lengths (record { place = inside.place; shape = s }) → whole ≡ (becomes reached typ).1 n
  becomes_run lengths inside typ whole s n run is around =
      around ∙ ap (λ x. within lengths (record { place = inside.place; shape = x })) is ∙ ap (within lengths) (sym (becomes_shape inside n))
      ∙ sym (becomes_within lengths inside n) ∙ ap (λ t. (becomes reached t).1 n) run

  pub count_run : (lengths : List (Place × ℕ)) (inside typ : FirType) → within lengths inside ≡ typ → (becomes reached typ).0 ≡ (shape_becomes reached inside.shape).0
  count_run lengths inside typ run = sym (ap (λ t. (becomes reached t).0) run) ∙ count_within lengths inside ∙ count_shape inside
