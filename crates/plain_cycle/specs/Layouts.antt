-- The components of a run: each component of each module at each instance path (FIRRTL specification 3.0, "Circuits and Modules").
use Rattle.std.specs.Prelude.{◌≡◌, ℕ, ◌++◌, List, [], map, flat_map, Contains, Option, Some, None}
use Rattle.fir_types.specs.declared.fir_type.FirType.{FirType}
use Rattle.fir_types.specs.Leaves.{leaves}
use Rattle.fir_meaning.specs.Components.{Design, TypedModule, Component, FlatLeaf, module_named, module_at, component_named, target_in, flat}
use Rattle.fir_meaning.specs.States.{leaf_of}
use Rattle.plain_values.specs.declared.site.Site.{Site}
use Rattle.plain_cycle.specs.declared.declarations.Declaration.{Declaration}
use Rattle.plain_cycle.specs.declared.layout.Layout.{Layout}
use Rattle.plain_cycle.specs.Apart.{AreApart}
use Rattle.plain_cycle.specs.Held.{Kept, kept_of, held}
use Rattle.plain_cycle.specs.Places.{Stand}

-- A component of the module at a path.
pub record Located : Type 0 where
  pub path : List ℕ
  pub m : TypedModule
  pub c : Component

-- The run has it.
pub record IsLocated (design : Design) (x : Located) : Type 0 where
  pub reached : module_at design x.path ≡ Some x.m
  pub declared : component_named x.m x.c.declaration.name ≡ Some x.c

-- its path and its name
abbrev pub key_of : Located → List ℕ × ℕ
key_of x = (x.path, x.c.declaration.name)

-- a component of which this is kept, at a path
abbrev pub site_with : List ℕ → Kept × FirType → Site
site_with path both = record { path = path; name = both.0.name; target = target_in both.0.sort; typ = both.1; leaves = leaves both.1 }

abbrev pub site_of : Located → Site
site_of x = site_with x.path (kept_of x.c.declaration, x.c.typ)

abbrev pub kept_at : Located → Kept
kept_at x = kept_of x.c.declaration

-- The components of a module at a path.
abbrev pub located_in : List ℕ → Option TypedModule → List Located
located_in path (Some m) = map (λ c. record { path = path; m = m; c = c }) m.components
located_in path None = []

-- those of the modules at these places
abbrev pub all_located : Design → List Stand → List Located
all_located design = flat_map (λ x. located_in x.0 (module_named design x.1))

-- The sites and the declarations are those of these components, one by one.
pub record Lists (all : List Located) (ss : List Site) (ds : List Declaration) : Type 0 where
  pub sites : ss ≡ map site_of all
  pub declared : map held ds ≡ map kept_at all

-- they are all components of the run, each of them once
pub record AreAll (design : Design) (all : List Located) : Type 0 where
  pub each : (x : Located) → Contains all x → IsLocated design x
  pub every : (x : Located) → IsLocated design x → Contains all x
  pub once : AreApart (map key_of all)

-- the layout gains these components
pub record Adds (more : List Located) (old new : Layout) : Type 0 where
  pub sites : new.sites ≡ old.sites ++ map site_of more
  pub declared : map held new.declared.items ≡ map held old.declared.items ++ map kept_at more

-- The sites and declarations are those of all components of the run, each of them once.
pub record IsLayout (design : Design) (ss : List Site) (ds : List Declaration) : Type 0 where
  pub all : List Located
  pub are : AreAll design all
  pub lists : Lists all ss ds

-- the leaves of a component, as leaves of the run
abbrev pub flat_leaves : Located → List FlatLeaf
flat_leaves x = map (λ leaf. flat x.m x.path (leaf_of x.c leaf)) (leaves x.c.typ)

-- Those of all components.
abbrev pub all_flat : List Located → List FlatLeaf
all_flat = flat_map flat_leaves
