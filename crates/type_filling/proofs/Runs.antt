-- Runs of vector lengths, which take no widths.
use Rattle.std.specs.Prelude.{ℕ, List, [], ◌∷◌, ◌≡◌}
use Rattle.std.proofs.Common.{ap, refl, sym, ◌∙◌, arith}
use Rattle.std.proofs.lemmas.Grind.{common_steps}
use Rattle.place_text.specs.declared.place.Place.{Place}
use Rattle.fir_types.specs.declared.fir_type.FirType.{FirType, the_lemmas}
use Rattle.fir_types.specs.declared.fir_type.Shape.{Shape}
use Rattle.fir_types.specs.declared.fir_type.Shape.TheVariants as shape
use Rattle.fir_types.specs.Runs.{within}
use Rattle.prim_ops.specs.declared.widths.Width.{Width}
use Rattle.type_filling.specs.Filling.{taking}
use Rattle.type_filling.specs.Layers.{shape_taking}

abbrev vector : Place × ℕ → FirType → FirType
vector length typ = record { place = length.0; shape = shape.Vector typ length.1 }

taking_vector : (length : Place × ℕ) (typ : FirType) (widths : List Width)
    → ◌≡◌ {A = FirType × List Width} (taking (vector length typ) widths) (vector length (taking typ widths).0, (taking typ widths).1)
taking_vector length typ widths = grind (arith, common_steps, the_lemmas)

-- lengths take no widths
pub taking_within : (lengths : List (Place × ℕ)) (typ : FirType) (widths : List Width)
    → ◌≡◌ {A = FirType × List Width} (taking (within lengths typ) widths) (within lengths (taking typ widths).0, (taking typ widths).1)
taking_within [] typ widths = refl
taking_within (length ∷ lengths) typ widths =
    taking_vector length (within lengths typ) widths ∙ ap (λ taken. (vector length taken.0, taken.1)) (taking_within lengths typ widths)

-- a type inside a run takes what the shape inside takes
pub taking_run : (lengths : List (Place × ℕ)) (inside typ whole : FirType) (s : Shape) (widths rest : List Width)
    → within lengths inside ≡ typ → ◌≡◌ {A = Shape × List Width} (s, rest) (shape_taking inside.shape widths)
    → whole ≡ within lengths (record { place = inside.place; shape = s }) → ◌≡◌ {A = FirType × List Width} (whole, rest) (taking typ widths)
taking_run lengths inside typ whole s widths rest run took around =
    rw (← run, around) (ap {B = FirType × List Width} (λ taken. (within lengths (record { place = inside.place; shape = taken.0 }), taken.1)) took
    ∙ (taking_inside lengths inside widths ∙ sym (taking_within lengths inside widths)))
  where
    taking_inside : (lengths : List (Place × ℕ)) (inside : FirType) (widths : List Width)
        → ◌≡◌ {A = FirType × List Width} (within lengths (record { place = inside.place; shape = (shape_taking inside.shape widths).0 }), (shape_taking inside.shape widths).1)
        (within lengths (taking inside widths).0, (taking inside widths).1)
    taking_inside lengths inside widths = grind (arith, common_steps, the_lemmas)
