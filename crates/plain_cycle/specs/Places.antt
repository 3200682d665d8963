-- The places of the run at which modules stand (FIRRTL specification 3.0, "Circuits and Modules"): the path to them, and the name of the
-- module.
use Rattle.std.specs.Prelude.{◌≡◌, ℕ, ◌++◌, List, [], ◌∷◌, map, flat_map, Contains, Option, Some, None}
use Rattle.fir_meaning.specs.Components.{Design, TypedModule, Component, module_named, module_at, target_in}
use Rattle.plain_cycle.specs.declared.places.Standing.{Standing}
use Rattle.plain_cycle.specs.Apart.{AreApart}

abbrev pub Stand : Type 0
Stand = List ℕ × ℕ

abbrev pub stand_of : Standing → Stand
stand_of place = (place.path.items, place.name)

abbrev pub stands_of : List Standing → List Stand
stands_of = map stand_of

-- behind a component of this name, where it makes this module
abbrev pub stand_behind : List ℕ → ℕ → Option ℕ → List Stand
stand_behind path name (Some target) = (path ++ name ∷ [], target) ∷ []
stand_behind path name None = []

abbrev pub component_stands : List ℕ → Component → List Stand
component_stands path c = stand_behind path c.declaration.name (target_in c.declaration.sort)

-- behind the components of a module at this path
abbrev pub stands_in : List ℕ → Option TypedModule → List Stand
stands_in path (Some m) = flat_map (component_stands path) m.components
stands_in path None = []

abbrev pub next_stands : Design → Stand → List Stand
next_stands design x = stands_in x.0 (module_named design x.1)

-- a module of this name stands there
abbrev pub IsPlace : Design → Stand → Type 0
IsPlace design x = (m : TypedModule) × (module_at design x.0 ≡ Some m) × (module_named design x.1 ≡ Some m)

-- All places, each of them once.
pub record ArePlaces (design : Design) (places : List Stand) : Type 0 where
  pub each : (x : Stand) → Contains places x → IsPlace design x
  pub every : (path : List ℕ) (m : TypedModule) → module_at design path ≡ Some m → (name : ℕ) × Contains places (path, name) × (module_named design name ≡ Some m)
  pub once : AreApart (map (λ (x : Stand). x.0) places)
