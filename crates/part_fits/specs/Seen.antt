-- What references and choices of a module came to.
use Rattle.std.specs.Prelude.{◌≡◌, ℕ, nat_eq, ◌&&◌, Bool, true, List, map, zip, slice_get, Some, is_some}
use Rattle.std.specs.List.{list_any}
use Rattle.std.specs.Map.{lookup}
use Rattle.fir_types.specs.declared.fir_type.FirType.{FirType}
use Rattle.prim_ops.specs.declared.widths.Width.{Width}
use Rattle.width_rules.specs.declared.component.Component.{Component}
use Rattle.width_rules.specs.Sources.{Known, component, named, field_step, element_step}
use Rattle.type_filling.specs.Filling.{filled}
use Rattle.part_fits.specs.declared.choices.Seen.{Seen}
use Rattle.part_fits.specs.declared.choices.Choices.{Choices}
use Rattle.part_fits.specs.declared.fits.Fit.{Fit}
use Rattle.part_fits.specs.declared.reference.Step.{Step}
use Rattle.part_fits.specs.declared.reference.Step.TheVariants.{Field, Element}
use Rattle.part_fits.specs.declared.reference.Reference.{Reference}
use Rattle.part_fits.specs.contracts.reference.ReferencePartialEq.TheImpl as key_test
use Rattle.part_fits.specs.Widths.{slot_width, is_over, wider_of}
use Rattle.part_fits.specs.Fits.{AreFits}

-- the step that is meant
abbrev pub step_to : Step → Component → Component
step_to (Field name) = field_step name
step_to Element = element_step

-- the part that is meant
abbrev pub part_at : Known → Reference → Component
part_at known key = named (map step_to key.steps.items) (component known key.name)

-- this is of this type and these widths
pub record IsSeen (typ : FirType) (widths : List Width) (seen : Seen) : Type 0 where
  pub typ_is : seen.typ ≡ typ
  pub widths_are : seen.widths ≡ widths
  pub fitted_is : seen.fit.typ ≡ filled typ widths
  pub over_is : seen.fit.is_over ≡ list_any is_over widths

-- so is what stands at this number
pub record IsSeenAt (all : List Seen) (number : ℕ) (typ : FirType) (widths : List Width) : Type 0 where
  pub one : Seen
  pub there' : slice_get all number ≡ Some one
  pub is : IsSeen typ widths one

-- what stands at this number is this part of a component
abbrev pub IsPart : List Width → List Seen → ℕ → Component → Type 0
IsPart ws all number sized = IsSeenAt all number sized.part.typ (map (slot_width ws) sized.slots)

-- what stands at this number is the choice between those at these two
pub record IsChoice (all : List Seen) (pair : ℕ × ℕ) (number : ℕ) : Type 0 where
  pub typ : FirType
  pub other : FirType
  pub firsts : List Width
  pub seconds : List Width
  pub first : IsSeenAt all pair.0 typ firsts
  pub second : IsSeenAt all pair.1 other seconds
  pub chosen : IsSeenAt all number typ (map wider_of (zip firsts seconds))

-- the tests of keys
abbrev pub same_reference : Reference → Reference → Bool
same_reference = (key_test.eq-value).it

abbrev pub same_pair : ℕ × ℕ → ℕ × ℕ → Bool
same_pair pair other = nat_eq pair.0 other.0 && nat_eq pair.1 other.1

-- each reference that is kept is of a component that is known, and what stands at its number is what it names; so with choices
pub record AreChoices (ws : List Width) (known : Known) (choices : Choices) : Type 0 where
  pub are_known : (key : Reference) (number : ℕ) → lookup (same_reference key) choices.references.entries ≡ Some number → is_some (lookup (nat_eq key.name) known) ≡ true
  pub references : (key : Reference) (number : ℕ) → lookup (same_reference key) choices.references.entries ≡ Some number → IsPart ws choices.seen.items number (part_at known key)
  pub pairs : (pair : ℕ × ℕ) (number : ℕ) → lookup (same_pair pair) choices.pairs.entries ≡ Some number → IsChoice choices.seen.items pair number

-- what stood at a number stands there still
abbrev pub Keeps : List Seen → List Seen → Type 0
Keeps old new = (number : ℕ) (typ : FirType) (widths : List Width) → IsSeenAt old number typ widths → IsSeenAt new number typ widths

-- the fitted types of components, and what references and choices came to
pub record Holds (ws : List Width) (known : Known) (fitted : List (ℕ × Fit)) (seen : Choices) : Type 0 where
  pub fits : AreFits ws known fitted
  pub choices : AreChoices ws known seen
