-- The leaves of the run in flat order, those of them that are watched, and the leaves of main's ports (FIRRTL specification 3.0, "Ports").
use Rattle.std.specs.Prelude.{◌≡◌, ℕ, ◌++◌, ◌&&◌, not, Bool, List, [], ◌∷◌, map, filter, filter_map, flat_map, slice_get, Option, Some, None, if◌then◌else◌}
use Rattle.fir_types.specs.declared.fir_type.FirType.{FirType}
use Rattle.fir_types.specs.declared.leaf.TypeLeaf.{TypeLeaf}
use Rattle.fir_types.specs.Leaves.{leaves}
use Rattle.fir_types.specs.Bundles.{nowhere}
use Rattle.fir_meaning.specs.Components.{Design, TypedModule, Component, Leaf, Sort, flow_of, is_clock, module_named}
use Rattle.fir_meaning.specs.States.{is_port, is_source}
use Rattle.net_of_circuit.specs.FlatOrder.{Placed, InFlatOrder, Standing, all_leaves, flat_of}
use Rattle.settling_laws.specs.Runs.{Watched}
use Rattle.plain_values.specs.declared.site.Site.{Site}
use Rattle.plain_cycle.specs.Held.{Kept}
use Rattle.plain_cycle.specs.Layouts.{Located, located_in}
use Rattle.plain_run.specs.declared.flat_order.RunLeaf.{RunLeaf}
use Rattle.plain_run.specs.declared.running.Watch.{Watch}

-- The components of the run that are no instances, in flat order.
pub record IsFlatOrder (design : Design) (placed : List Placed) : Type 0 where
  pub main : TypedModule
  pub found : module_named design design.main ≡ Some main
  pub order : InFlatOrder design [] main main.components placed

-- a leaf of the run with its kind and width
abbrev pub watched_leaf : Standing → Watched
watched_leaf y = record { at = flat_of y; leaf = y.1 }

-- The leaves of the run, where these are its components.
abbrev pub run_leaves : List Placed → List Watched
run_leaves placed = map watched_leaf (all_leaves placed)

-- Those of these numbers among them, from 0; there is nothing to watch at a number past the last.
abbrev pub watched_by : List Placed → List ℕ → List Watched
watched_by placed numbers = filter_map (slice_get (run_leaves placed)) numbers

-- a leaf of the component of this name in main
abbrev pub leaf_of_main : ℕ → TypeLeaf → Watched
leaf_of_main name leaf = record { at = record { path = []; component = name; way = leaf.path }; leaf = leaf }

-- main's leaves of flow sink that are no clocks
abbrev pub sinks_of_port : Component → List Watched
sinks_of_port c =
    if is_port c.declaration.sort then map (leaf_of_main c.declaration.name) (filter (λ leaf. not (is_source (flow_of c.declaration.sort leaf.flip)) && not (is_clock leaf)) (leaves c.typ)) else []

abbrev pub sinks_of : Option TypedModule → List Watched
sinks_of (Some m) = flat_map sinks_of_port m.components
sinks_of None = []

-- The leaves that a trace watches.
abbrev pub sinks : Design → List Watched
sinks design = sinks_of (module_named design design.main)

-- As they are held

-- a component of which this is kept; its place and what stands behind it count for nothing here
abbrev pub component_with : Kept × FirType → Component
component_with both = record { declaration = record { name = both.0.name; place = nowhere; sort = both.0.sort; block = both.0.block; behind = both.0.block }; typ = both.1 }

-- the leaf of a component of this sort is given from outside
abbrev pub is_given : Sort → TypeLeaf → Bool
is_given sort leaf = is_source (flow_of sort leaf.flip) && not (is_clock leaf)

abbrev pub leaf_named : ℕ → TypeLeaf → Leaf
leaf_named name leaf = record { component = name; way = leaf.path }

-- the components of the module of this name behind an instance
abbrev pub located_behind : Design → Site → Option ℕ → List Located
located_behind design site (Some target) = located_in (site.path ++ site.name ∷ []) (module_named design target)
located_behind design site None = []

-- those of the module that a component makes
abbrev pub located_inside : Design → Site → List Located
located_inside design site = located_behind design site site.target

-- a leaf of a component of the run
abbrev pub leaf_at : Site → TypeLeaf → Watched
leaf_at site leaf = record { at = record { path = site.path; component = site.name; way = leaf.path }; leaf = leaf }

-- none of an instance, which makes this module
abbrev pub leaves_unless : Site → Option ℕ → List Watched
leaves_unless site None = map (leaf_at site) site.leaves
leaves_unless site (Some target) = []

abbrev pub leaves_of_site : Site → List Watched
leaves_of_site site = leaves_unless site site.target

-- The leaves of these components.
abbrev pub leaves_of_sites : List Site → List Watched
leaves_of_sites = flat_map leaves_of_site

-- they are the leaves of the run in flat order
pub record AreInOrder (design : Design) (sites : List Site) : Type 0 where
  pub placed : List Placed
  pub order : IsFlatOrder design placed
  pub leaves : leaves_of_sites sites ≡ run_leaves placed

-- the leaf of the run that is meant
abbrev pub leaf_held : RunLeaf → Watched
leaf_held held = leaf_at held.site.now held.leaf.now

-- the watched ones of leaves that are held
abbrev pub watched_in : Watch → List Watched
watched_in watch = filter_map (slice_get (leaves_of_sites watch.sites.now)) watch.numbers.now
