-- The leaves of a run in flat order: for a module its ports, and then what its statements declare in text order, branches included;
-- for an instance its own list.
use Rattle.std.specs.Prelude.{◌≡◌, ℕ, ◌==◌, ◌&&◌, ◌++◌, Bool, true, false, List, [], ◌∷◌, map, filter_map, flat_map, position, slice_get, Option, Some, None}
use Rattle.fir_types.specs.declared.leaf.TypeLeaf.{TypeLeaf}
use Rattle.fir_types.specs.declared.memory.Memory.{Memory}
use Rattle.fir_types.specs.Leaves.{leaves}
use Rattle.fir_meaning.specs.Components.{Design, TypedModule, Component, FlatLeaf, Sort, A_memory, module_at, module_named, component_named, target_in}
use Rattle.fir_meaning.specs.Drives.{same_way}
use Rattle.fir_meaning.specs.States.{Stands}

-- A component that is no instance, where it stands: the instances that lead to its module, the outermost first, and that module.
pub record Placed : Type 0 where
  pub path : List ℕ
  pub m : TypedModule
  pub c : Component

-- The components of a module at a path, in flat order, those of its instances included.
pub data InFlatOrder (design : Design) : List ℕ → TypedModule → List Component → List Placed → Type 0 where
  no_more : {path : List ℕ} {m : TypedModule} → InFlatOrder design path m [] []
  one_more : {path : List ℕ} {m : TypedModule} {c : Component} {cs : List Component} {rest : List Placed} → target_in c.declaration.sort ≡ None
      → InFlatOrder design path m cs rest → InFlatOrder design path m (c ∷ cs) (record { path = path; m = m; c = c } ∷ rest)
  an_instance : {path : List ℕ} {m : TypedModule} {c : Component} {cs : List Component} {own rest : List Placed} (target : ℕ) (n : TypedModule)
      → target_in c.declaration.sort ≡ Some target → module_named design target ≡ Some n
      → InFlatOrder design (path ++ c.declaration.name ∷ []) n n.components own → InFlatOrder design path m cs rest → InFlatOrder design path m (c ∷ cs) (own ++ rest)

-- a leaf with the component that it belongs to
abbrev pub Standing : Type 0
Standing = Placed × TypeLeaf

-- All leaves, component by component.
abbrev pub all_leaves : List Placed → List Standing
all_leaves placed = flat_map (λ p. map (λ leaf. (p, leaf)) (leaves p.c.typ)) placed

-- the leaf of the run that it is
abbrev pub flat_of : Standing → FlatLeaf
flat_of x = record { path = x.0.path; component = x.0.c.declaration.name; way = x.1.path }

-- the memories
abbrev pub memory_in : Placed → Sort → Option (Placed × Memory)
memory_in p (A_memory memory) = Some (p, memory)
memory_in p _ = None

abbrev pub all_memories : List Placed → List (Placed × Memory)
all_memories placed = filter_map (λ p. memory_in p p.c.declaration.sort) placed

-- whether two instance paths are the same, and two leaves of the run
abbrev pub same_path : List ℕ → List ℕ → Bool
same_path [] [] = true
same_path (i ∷ path) (j ∷ other) = (i == j) && same_path path other
same_path _ _ = false

abbrev pub same_flat : FlatLeaf → FlatLeaf → Bool
same_flat a b = same_path a.path b.path && ((a.component == b.component) && same_way a.way b.way)

-- The number of a leaf of the run, where it is one of these.
abbrev pub number_in : List Standing → FlatLeaf → Option ℕ
number_in all x = position (λ standing. same_flat (flat_of standing) x) all

-- In the flat order of an accepted circuit each leaf of the run stands once: each entry is a leaf of a component that is no instance,
-- each such leaf has an entry, and no two entries are one leaf of the run.
pub record ListsLeaves (design : Design) (placed : List Placed) : Type 0 where
  pub components : (k : ℕ) (p : Placed) → slice_get placed k ≡ Some p → (module_at design p.path ≡ Some p.m) × (component_named p.m p.c.declaration.name ≡ Some p.c)
  pub stands : (x : ℕ) (y : Standing) → slice_get (all_leaves placed) x ≡ Some y → Stands design y.0.path y.0.m y.0.c y.1 × (target_in y.0.c.declaration.sort ≡ None)
  pub own : (path : List ℕ) (m : TypedModule) (c : Component) (leaf : TypeLeaf) → Stands design path m c leaf → target_in c.declaration.sort ≡ None
      → (x : ℕ) × (slice_get (all_leaves placed) x ≡ Some (record { path = path; m = m; c = c }, leaf))
  pub once : (x z : ℕ) (y w : Standing) → slice_get (all_leaves placed) x ≡ Some y → slice_get (all_leaves placed) z ≡ Some w → flat_of y ≡ flat_of w → x ≡ z
