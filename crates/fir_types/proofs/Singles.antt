-- Vectors of length 1: a walk goes to the element, which has the same leaves one step further.
use Rattle.std.proofs.Common.{◌≡◌, ℕ, ◌*◌, Bool, false, List, [], ◌∷◌, ◌++◌, map, sym, ap, ap₂, ◌∙◌, arith, append_assoc}
use Rattle.std.proofs.lemmas.Grind.{common_steps}
use Rattle.fir_types.specs.declared.fir_type.FirType.{FirType}
use Rattle.fir_types.specs.declared.fir_type.Shape.TheVariants as shape
use Rattle.fir_types.specs.declared.leaf.PathStep.{PathStep}
use Rattle.fir_types.specs.declared.leaf.PathStep.TheVariants as step
use Rattle.fir_types.specs.Leaves.{leaves, count, elements, under}
use Rattle.fir_types.proofs.Layers.{leaves-vector, count-vector}
use Rattle.fir_types.proofs.Walks.{leaves_within, flip_stays}

-- The part with this type and path leads by lengths of 1 to what is inside, whose path goes on from there.
pub record LeadsTo (typ : FirType) (path : List PathStep) (inside : FirType) (way : List PathStep) : Type 0 where
  pub same_leaves : (flip : Bool) → map (under path flip) (leaves typ) ≡ map (under way flip) (leaves inside)
  pub same_count : count typ ≡ count inside
  pub goes_on : (more : List PathStep) × (way ≡ path ++ more)

-- the leaves of a vector of length 1 are those of its element
pub leaves-single : (typ element : FirType) (n : ℕ) → typ.shape ≡ shape.Vector element n → n ≡ 1 → leaves typ ≡ map (under (step.Element 0 ∷ []) false) (leaves element)
leaves-single typ element n is one = leaves-vector typ element n is ∙ ap (elements (leaves element)) one

-- one length further in
pub leads_on : (typ inside element : FirType) (path way further : List PathStep) (n : ℕ) → inside.shape ≡ shape.Vector element n → n ≡ 1
    → LeadsTo typ path inside way → further ≡ way ++ step.Element 0 ∷ [] → LeadsTo typ path element further
leads_on typ inside element path way further n is one led w =
    let c = count-vector inside element n is in
    record {
      same_leaves = λ flip.
          led.same_leaves flip ∙ ap (map (under way flip)) (leaves-single inside element n is one) ∙ leaves_within way (step.Element 0) flip false (leaves element)
          ∙ ap₂ (λ p f. map (under p f) (leaves element)) (sym w) (flip_stays flip);
      same_count = led.same_count ∙ c ∙ ap (λ m. m * count element) one ∙ grind (arith, common_steps);
      goes_on = (led.goes_on.0 ++ step.Element 0 ∷ [], w ∙ ap (λ p. p ++ step.Element 0 ∷ []) led.goes_on.1 ∙ append_assoc path led.goes_on.0 (step.Element 0 ∷ []));
    }
