-- What the steps of references come to, as it is held.
use Rattle.std.proofs.Common.{◌≡◌, ℕ, List, map, Option, Some, None, option_map, sym, ap, ap₂, ◌∙◌, arith}
use Rattle.std.proofs.lemmas.Grind.{common_steps}
use Rattle.place_text.specs.declared.place.Place.{Place}
use Rattle.bit_words.specs.declared.value.Value.{Value}
use Rattle.bit_words.specs.Values.{integer_of}
use Rattle.fir_types.specs.declared.fir_type.FirType.{FirType}
use Rattle.fir_types.specs.declared.name.Name.{Name}
use Rattle.fir_types.specs.declared.leaf.PathStep.{PathStep}
use Rattle.fir_types.specs.declared.leaf.PathStep.TheVariants as step
use Rattle.fir_tree.specs.declared.expr.Expr.{Expr, the_lemmas}
use Rattle.fir_tree.specs.declared.expr.Form.TheVariants as form
use Rattle.fir_tree.specs.declared.expr.Suffix.{Suffix}
use Rattle.fir_tree.specs.declared.expr.Suffix.TheVariants as suffix
use Rattle.fir_meaning.specs.Values.{Scene, Spot, value, spot_of, suffix_step, follow, part_of, field_type, element_type, element_step, vector_length, values_at, lone}
use Rattle.plain_values.specs.declared.spot.HeldSpot.{HeldSpot}
use Rattle.plain_values.specs.Finding.{spot_of_held}
use Rattle.plain_values.proofs.Forms.{value-Ref, value-Field, value-At, value-Index}

pub step_field : (scene : Scene) (s : Suffix) (name : Name) (spot next : HeldSpot) (typ : FirType) → s ≡ suffix.Field name → typ ≡ field_type name.id spot.typ
    → spot_of_held next ≡ part_of (spot_of_held spot) typ (Some (step.Field name.id)) → spot_of_held next ≡ suffix_step s scene (spot_of_held spot)
step_field scene s name spot next typ is t e =
    e ∙ (ap (λ u. part_of (spot_of_held spot) u (Some (step.Field name.id))) t ∙ ap (λ f. f scene (spot_of_held spot)) (sym (value-Field s name is)))

pub step_at : (scene : Scene) (s : Suffix) (a b : Place) (k : ℕ) (spot next : HeldSpot) (typ : FirType) → s ≡ suffix.At a b k → typ ≡ element_type spot.typ
    → spot_of_held next ≡ part_of (spot_of_held spot) typ (Some (step.Element k)) → spot_of_held next ≡ suffix_step s scene (spot_of_held spot)
step_at scene s a b k spot next typ is t e =
    e ∙ (ap (λ u. part_of (spot_of_held spot) u (Some (step.Element k))) t ∙ ap (λ f. f scene (spot_of_held spot)) (sym (value-At s a b k is)))

pub step_index : (scene : Scene) (s : Suffix) (a : Place) (index : Expr) (spot next : HeldSpot) (typ : FirType) (number : Value) (length : ℕ) (o : Option PathStep) → s ≡ suffix.Index a index
    → typ ≡ element_type spot.typ → number ≡ lone (value index scene) → length ≡ vector_length spot.typ → o ≡ element_step length (integer_of number)
    → spot_of_held next ≡ part_of (spot_of_held spot) typ o → spot_of_held next ≡ suffix_step s scene (spot_of_held spot)
step_index scene s a index spot next typ number length o is t n l p e =
    e ∙ (ap₂ (part_of (spot_of_held spot)) t (p ∙ ap₂ (λ k v. element_step k (integer_of v)) l n) ∙ ap (λ f. f scene (spot_of_held spot)) (sym (value-Index s a index is)))

pub ref_value : (scene : Scene) (e : Expr) (name : Name) (ss slice : List Suffix) (spot : HeldSpot) (values : List Value) → e.form ≡ form.Ref name ss → slice ≡ ss
    → spot_of_held spot ≡ follow scene name.id (map suffix_step slice) → values ≡ values_at scene (spot_of_held spot) (spot_of_held spot).way → values ≡ value e scene
ref_value scene e name ss slice spot values is same to h =
    h ∙ (ap (λ s. values_at scene s s.way) (to ∙ ap (λ xs. follow scene name.id (map suffix_step xs)) same) ∙ ap (λ f. f scene) (sym (value-Ref e name ss is)))

spot-Ref : (scene : Scene) (e : Expr) (name : Name) (ss : List Suffix) → e.form ≡ form.Ref name ss → spot_of scene e ≡ Some (follow scene name.id (map suffix_step ss))
spot-Ref scene e name ss is = grind (arith, common_steps, the_lemmas)

pub ref_spot : (scene : Scene) (e : Expr) (name : Name) (ss slice : List Suffix) (spot : HeldSpot) → e.form ≡ form.Ref name ss → slice ≡ ss
    → spot_of_held spot ≡ follow scene name.id (map suffix_step slice) → Some (spot_of_held spot) ≡ spot_of scene e
ref_spot scene e name ss slice spot is same to = ap Some (to ∙ ap (λ xs. follow scene name.id (map suffix_step xs)) same) ∙ sym (spot-Ref scene e name ss is)
