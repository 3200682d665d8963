-- What lists of values say of a circuit in a cycle: for each component of the run its leaves and, beside each, a value.
use Rattle.std.specs.Prelude.{◌≡◌, ℕ, ◌==◌, ◌&&◌, Bool, true, false, List, [], ◌∷◌, ℤ, pos, find, Contains, Option, Some, None, option_map, option_and_then, if◌then◌else◌}
use Rattle.bit_words.specs.declared.value.Value.{Value}
use Rattle.bit_words.specs.Values.{integer_of}
use Rattle.fir_types.specs.declared.fir_type.FirType.{FirType}
use Rattle.fir_types.specs.declared.fir_type.Shape.TheVariants as shape
use Rattle.fir_types.specs.declared.leaf.TypeLeaf.{TypeLeaf}
use Rattle.fir_types.specs.declared.leaf.PathStep.{PathStep}
use Rattle.fir_types.specs.declared.leaf.PathStep.TheVariants as step
use Rattle.fir_types.specs.Bundles.{nowhere}
use Rattle.fir_meaning.specs.Values.{Valuation, Scene, scene_with, seen_through, fitted_to}
use Rattle.fir_meaning.specs.Drives.{same_way}
use Rattle.fir_meaning.specs.WellTyped.{Known, is_narrow}
use Rattle.plain_values.specs.declared.site.Site.{Site}
use Rattle.plain_values.specs.declared.site.View.{View}

-- Two paths are the same where all names on them are.
abbrev pub same_path : List ℕ → List ℕ → Bool
same_path [] [] = true
same_path (a ∷ path) (b ∷ other) = (a == b) && same_path path other
same_path _ _ = false

-- the component has this name and stands in the module at this path
abbrev pub is_at : List ℕ → ℕ → Site → Bool
is_at path name site = (site.name == name) && same_path site.path path

-- The first component of a name at a path.
abbrev pub site_at : List Site → List ℕ → ℕ → Option Site
site_at sites path name = find (is_at path name) sites

-- the value beside the first leaf at this way
abbrev pub beside_leaf : List PathStep → List TypeLeaf → List Value → Option Value
beside_leaf way (leaf ∷ rest) (v ∷ vs) = if same_way leaf.path way then Some v else beside_leaf way rest vs
beside_leaf way _ _ = None

-- its integer, and 0 where there is none
abbrev pub integer_or_zero : Option Value → ℤ
integer_or_zero (Some v) = integer_of v
integer_or_zero None = pos 0

-- the value of a leaf of the run, where one stands beside it
abbrev pub value_on : List Site → List (List Value) → List ℕ → ℕ → List PathStep → Option Value
value_on (site ∷ sites) (vs ∷ values) path name way = if is_at path name site then beside_leaf way site.leaves vs else value_on sites values path name way
value_on _ _ path name way = None

-- An integer for each leaf of the run: that of the value beside it, and 0 where there is none.
abbrev pub valuation_of : List Site → List (List Value) → Valuation
valuation_of sites values path name way = integer_or_zero (value_on sites values path name way)

-- the type of a component, and an empty bundle where there is none
abbrev pub type_or_empty : Option Site → FirType
type_or_empty (Some site) = site.typ
type_or_empty None = record { place = nowhere; shape = shape.Bundle [] }

-- the module that a component makes, where it is an instance
abbrev pub target_at : List Site → List ℕ → ℕ → Option ℕ
target_at sites path name = option_and_then (λ (s : Site). s.target) (site_at sites path name)

-- the port that a leaf is one of, where its component makes this module
abbrev pub port_in : Option ℕ → List PathStep → Option ℕ
port_in (Some target) (step.Field port ∷ way) = Some port
port_in _ _ = None

-- The types of the components of the module at a path; none where there is no component of the name.
abbrev pub known_at : List Site → List ℕ → Known
known_at sites path name = option_map (λ (s : Site). s.typ) (site_at sites path name)

-- What the module at a path sees.
abbrev pub scene_at : List Site → List (List Value) → List ℕ → Scene
scene_at sites values path =
    scene_with (λ name. type_or_empty (site_at sites path name)) (λ name way. seen_through (valuation_of sites values) path name (target_at sites path name) way)

abbrev pub scene_of_view : View → Scene
scene_of_view view = scene_at view.sites.now view.values.now view.path.now

abbrev pub known_of_view : View → Known
known_of_view view = known_at view.sites.now view.path.now

-- No component has a ground type of more than 128 bits.
abbrev pub AreNarrow : List Site → Type 0
AreNarrow sites = (site : Site) → Contains sites site → is_narrow site.typ ≡ true
