-- The places of the run at which modules stand: the path to them, and the name of the module.
use Rattle.std.specs.Prelude.{ℕ, ◌++◌, List, [], ◌∷◌, map, flat_map, nat_eq, Contains, Option, Some, None}
use Rattle.std.specs.Map.{lookup}
use Rattle.clock_check.specs.declared.instances.Instance.{Instance}
use Rattle.one_clock.specs.declared.module_clocks.ModuleClocks.{ModuleClocks}
use Rattle.one_clock.specs.declared.places.Standing.{Standing}
use Rattle.one_clock.specs.Tables.{Table}

abbrev pub Stand : Type 0
Stand = List ℕ × ℕ

abbrev pub stand_of : Standing → Stand
stand_of place = (place.path.items, place.name)

abbrev pub stands_of : List Standing → List Stand
stands_of = map stand_of

-- behind an instance, where this is its module
abbrev pub stand_behind : List ℕ → ℕ → Option ℕ → List Stand
stand_behind path instance (Some target) = (path ++ instance ∷ [], target) ∷ []
stand_behind path instance None = []

abbrev pub instance_stands : List (ℕ × ℕ) → List ℕ → Instance → List Stand
instance_stands targets path instance = stand_behind path instance.name (lookup (nat_eq instance.name) targets)

-- behind the instances of a module at this path
abbrev pub stands_in : List ℕ → Option ModuleClocks → List Stand
stands_in path (Some clocks) = flat_map (instance_stands clocks.targets.entries path) clocks.instances.items
stands_in path None = []

abbrev pub next_stands : Table → Stand → List Stand
next_stands table place = stands_in place.0 (lookup (nat_eq place.1) table)

-- the place itself, and all that stand behind it
pub data ComesFrom (table : Table) (start : Stand) : Stand → Type 0 where
  itself : ComesFrom table start start
  behind : (x y : Stand) → ComesFrom table start x → Contains (next_stands table x) y → ComesFrom table start y
