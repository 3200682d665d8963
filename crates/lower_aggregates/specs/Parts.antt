-- Declarations with their types and the numbers of their first leaves.
use Rattle.std.specs.Prelude.{ℕ, ◌+◌, List, [], ◌∷◌, length}
use Rattle.place_text.specs.declared.place.Place.{Place}
use Rattle.fir_types.specs.declared.fir_type.FirType.{FirType}
use Rattle.fir_types.specs.Leaves.{leaves}
use Rattle.fir_meaning.specs.Components.{Sort, Component, TypedModule}
use Rattle.lower_aggregates.specs.Headings.{Heading}

-- A component of a module without its block, and how many leaves stand before it.
pub record Part : Type 0 where
  pub name : ℕ
  pub place : Place
  pub sort : Sort
  pub typ : FirType
  pub first : ℕ

abbrev pub part : ℕ → Heading × FirType → Part
part first both = record { name = both.0.name; place = both.0.place; sort = both.0.sort; typ = both.1; first = first }

-- One after the other, the first one with so many leaves before it.
abbrev pub parts_from : ℕ → List (Heading × FirType) → List Part
parts_from first [] = []
parts_from first (both ∷ rest) = part first both ∷ parts_from (first + length (leaves both.1)) rest

abbrev pub component_part : ℕ → Component → Part
component_part first c = record { name = c.declaration.name; place = c.declaration.place; sort = c.declaration.sort; typ = c.typ; first = first }

-- The same of components.
abbrev pub component_parts : ℕ → List Component → List Part
component_parts first [] = []
component_parts first (c ∷ cs) = component_part first c ∷ component_parts (first + length (leaves c.typ)) cs

-- The components of a module in text order.
abbrev pub parts_of : TypedModule → List Part
parts_of m = component_parts 0 m.components

-- How many leaves declarations have.
abbrev pub leaves_in : List (Heading × FirType) → ℕ
leaves_in [] = 0
leaves_in (both ∷ rest) = length (leaves both.1) + leaves_in rest
