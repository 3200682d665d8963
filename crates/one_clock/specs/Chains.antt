-- The leaves of the run that lead to main's first Clock input, by the links of all modules at all places.
use Rattle.std.specs.Prelude.{◌≡◌, ◌↔◌, ℕ, Bool, true, false, List, [], map, nat_eq, Option, Some, None, option_map, slice_get}
use Rattle.std.specs.List.{list_any}
use Rattle.std.specs.Map.{lookup}
use Rattle.fir_meaning.specs.Components.{Leaf, FlatLeaf}
use Rattle.drive_check.specs.Keys.{leaf_of_key}
use Rattle.clock_check.specs.declared.flat_set.FlatKey.{FlatKey}
use Rattle.clock_check.specs.Flats.{is_within}
use Rattle.clock_check.specs.Searched.{Sinks, sinks_at, LeadsTo}
use Rattle.clock_check.specs.Joins.{joins}
use Rattle.one_clock.specs.declared.module_clocks.ModuleClocks.{ModuleClocks}
use Rattle.one_clock.specs.declared.places.Standing.{Standing}
use Rattle.one_clock.specs.Tables.{Table}

abbrev pub joins_in : FlatLeaf → FlatLeaf → List ℕ → Option ModuleClocks → Bool
joins_in x y path (Some clocks) = list_any (joins clocks.targets.entries path x y) clocks.links.items
joins_in x y path None = false

-- by a link of the module at this place the first leaf has its value from the second one
abbrev pub joins_at : Table → FlatLeaf → FlatLeaf → Standing → Bool
joins_at table x y place = joins_in x y place.path.items (lookup (nat_eq place.name) table)

-- a leaf of main
abbrev pub at_top : Leaf → FlatLeaf
at_top leaf = record { path = []; component = leaf.component; way = leaf.way }

abbrev pub first_input : Option ModuleClocks → Option FlatLeaf
first_input (Some clocks) = option_map at_top (slice_get (map leaf_of_key clocks.inputs.items) 0)
first_input None = None

abbrev pub root_in : Table → ℕ → Option FlatLeaf
root_in table main = first_input (lookup (nat_eq main) table)

-- these are all leaves that lead to this one
abbrev pub Finds : Table → List Standing → Option FlatLeaf → List FlatKey → Type 0
Finds table places None keys = (x : FlatLeaf) → is_within keys x ≡ false
Finds table places (Some root) keys = (sinks : Sinks) × ((x y : FlatLeaf) → is_within (sinks_at sinks y) x ≡ list_any (joins_at table x y) places)
    × ((x : FlatLeaf) → (is_within keys x ≡ true) ↔ LeadsTo sinks root x)
