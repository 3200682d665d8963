-- The cycle (FIRRTL specification 3.0, "Registers", "Memories" and "Last Connect Semantics"): the state between cycles, the
-- valuation that settles in a cycle, the next state, and what is watched from cycle to cycle.
use Rattle.std.specs.Prelude.{◌≡◌, ◌≢◌, ◌<◌, ℕ, ◌&&◌, not, Bool, true, false, List, [], ◌∷◌, map, filter, flat_map, Contains, ℤ, pos, Option, Some, None, option_map, option_and_then, if◌then◌else◌}
use Rattle.bit_words.specs.Values.{integer_of}
use Rattle.fir_types.specs.declared.fir_type.FirType.{FirType}
use Rattle.fir_types.specs.declared.leaf.TypeLeaf.{TypeLeaf}
use Rattle.fir_types.specs.declared.leaf.PathStep.{PathStep}
use Rattle.fir_types.specs.declared.leaf.PathStep.TheVariants as step
use Rattle.fir_types.specs.declared.memory.Memory.{Memory}
use Rattle.fir_types.specs.declared.memory.Under.{Under}
use Rattle.fir_types.specs.declared.memory.Under.TheVariants as under
use Rattle.fir_types.specs.Leaves.{leaves}
use Rattle.fir_types.specs.Memories.{depth_of, read_latency_of, under_of}
use Rattle.fir_tree.specs.declared.expr.Expr.{Expr}
use Rattle.fir_meaning.specs.Components.{Design, TypedModule, Component, Leaf, Sort, An_input, An_output, A_register, A_reset_register, A_memory, A_node, Flow, Source, flow_of, is_clock, module_at, module_named, component_named, FlatLeaf, flat}
use Rattle.fir_meaning.specs.Values.{Valuation, Scene, scene_of, value, whole, is_one}
use Rattle.fir_meaning.specs.Drives.{drives, set_at, left_in}
use Rattle.fir_meaning.specs.MemoryPorts.{Contents, after_writes, read_by}
use Rattle.fir_meaning.specs.Elements.{IsElement}

-- What is kept from a cycle to the next: the integer of each register's leaf, of each leaf of each element of each memory,
-- and of each leaf that a memory's port has read, by instance path and name.
pub record State : Type 0 where
  pub registers : List ℕ → ℕ → List PathStep → ℤ
  pub contents : List ℕ → ℕ → Contents
  pub captured : List ℕ → ℕ → ℕ → List PathStep → ℤ  -- of the port of this name

-- All is 0 at first.
abbrev pub first_state : State
first_state = record { registers = λ path c way. pos 0; contents = λ path c element way. pos 0; captured = λ path c port way. pos 0 }

-- The integers of main's input leaves in a cycle.
abbrev pub Inputs : Type 0
Inputs = ℕ → List PathStep → ℤ

-- The leaf is one of this component of the module at this path.
pub record Stands (design : Design) (path : List ℕ) (m : TypedModule) (c : Component) (leaf : TypeLeaf) : Type 0 where
  pub reached : module_at design path ≡ Some m
  pub declared : component_named m c.declaration.name ≡ Some c
  pub listed : Contains (leaves c.typ) leaf

-- the integer of a leaf
abbrev pub seen : TypedModule → List ℕ → Valuation → Component → TypeLeaf → ℤ
seen m path rho c leaf = (scene_of m path rho).integers c.declaration.name leaf.path

-- a register, with a reset or without
abbrev pub is_register : Sort → Bool
is_register (A_register clock) = true
is_register (A_reset_register clock reset init) = true
is_register _ = false

-- a port of the module
abbrev pub is_port : Sort → Bool
is_port An_input = true
is_port An_output = true
is_port _ = false

-- a leaf that is only read
abbrev pub is_source : Flow → Bool
is_source Source = true
is_source _ = false

-- Statements decide the leaf: it is a sink or duplex, and neither a register's leaf nor a Clock.
abbrev pub is_driven : Component → TypeLeaf → Bool
is_driven c leaf = not (is_source (flow_of c.declaration.sort leaf.flip)) && (not (is_register c.declaration.sort) && not (is_clock leaf))

-- the leaf of the module
abbrev pub leaf_of : Component → TypeLeaf → Leaf
leaf_of c leaf = record { component = c.declaration.name; way = leaf.path }

-- The leaf of the run is a leaf of a component.
pub record IsLeafOf (design : Design) (x : FlatLeaf) : Type 0 where
  pub path : List ℕ
  pub m : TypedModule
  pub c : Component
  pub leaf : TypeLeaf
  pub stands : Stands design path m c leaf
  pub is : flat m path (leaf_of c leaf) ≡ x

-- A valuation is settled in a cycle that begins with this state and has these inputs: each leaf has what its sort asks for.
pub record Settled (design : Design) (s : State) (given : Inputs) (rho : Valuation) : Type 0 where
  -- a Clock has no value: 0 stands for it
  pub clocks : (path : List ℕ) (m : TypedModule) (c : Component) (leaf : TypeLeaf) → Stands design path m c leaf → is_clock leaf ≡ true
      → seen m path rho c leaf ≡ pos 0
  -- main's input leaves are given
  pub inputs : (m : TypedModule) (c : Component) (leaf : TypeLeaf) → Stands design [] m c leaf → is_port c.declaration.sort ≡ true
      → is_source (flow_of c.declaration.sort leaf.flip) ≡ true → is_clock leaf ≡ false → seen m [] rho c leaf ≡ given c.declaration.name leaf.path
  -- a register shows what it holds
  pub registers : (path : List ℕ) (m : TypedModule) (c : Component) (leaf : TypeLeaf) → Stands design path m c leaf → is_register c.declaration.sort ≡ true
      → seen m path rho c leaf ≡ s.registers path c.declaration.name leaf.path
  -- a node's leaves have the value of its expression
  pub nodes : (path : List ℕ) (m : TypedModule) (c : Component) (e : Expr) → module_at design path ≡ Some m → component_named m c.declaration.name ≡ Some c
      → c.declaration.sort ≡ A_node e → map (seen m path rho c) (leaves c.typ) ≡ map integer_of (value e (scene_of m path rho))
  -- a read of latency 0 shows the contents at the beginning of the cycle, at the address of the cycle
  pub reads : (path : List ℕ) (m : TypedModule) (c : Component) (leaf : TypeLeaf) (memory : Memory) (port field : ℕ) (way : List PathStep)
      → Stands design path m c leaf → c.declaration.sort ≡ A_memory memory → read_latency_of memory ≡ 0 → leaf.flip ≡ false
      → leaf.path ≡ step.Field port ∷ step.Field field ∷ way
      → seen m path rho c leaf ≡ read_by memory ((scene_of m path rho).integers c.declaration.name) (s.contents path c.declaration.name) port way
  -- a read of latency 1 shows what was captured at the end of the cycle before
  pub captured : (path : List ℕ) (m : TypedModule) (c : Component) (leaf : TypeLeaf) (memory : Memory) (port field : ℕ) (way : List PathStep)
      → Stands design path m c leaf → c.declaration.sort ≡ A_memory memory → read_latency_of memory ≢ 0 → leaf.flip ≡ false
      → leaf.path ≡ step.Field port ∷ step.Field field ∷ way → seen m path rho c leaf ≡ s.captured path c.declaration.name port way
  -- every other leaf has what the statements of its component's block leave in it
  pub driven : (path : List ℕ) (m : TypedModule) (c : Component) (leaf : TypeLeaf) → Stands design path m c leaf → is_driven c leaf ≡ true
      → drives (scene_of m path rho) (leaf_of c leaf) c.declaration.block ≡ Some (seen m path rho c leaf)

-- There is one settled valuation: any two agree on every leaf of the run.
pub record HasOneSettled (design : Design) (s : State) (given : Inputs) : Type 0 where
  pub one : (rho : Valuation) × Settled design s given rho
  pub only : (rho other : Valuation) → Settled design s given rho → Settled design s given other
      → (x : FlatLeaf) → IsLeafOf design x → rho x.path x.component x.way ≡ other x.path x.component x.way

-- The next state

-- the integer, or another where there is none
abbrev pub or_else : ℤ → Option ℤ → ℤ
or_else other (Some n) = n
or_else other None = other

-- What a register holds next: `init`, fitted to it, where it has a reset that is 1; else what the statements drive; else what
-- it holds.
abbrev pub next_of_register : Scene → Component → Sort → List PathStep → ℤ → ℤ
next_of_register scene c (A_register clock) way held =
    or_else held (drives scene (record { component = c.declaration.name; way = way }) c.declaration.block)
next_of_register scene c (A_reset_register clock reset init) way held =
    let leaf : Leaf = record { component = c.declaration.name; way = way } in
    or_else held (if is_one (value reset scene)
    then left_in leaf None (set_at false (Some (whole scene c.declaration.name)) (value init scene))
    else drives scene leaf c.declaration.block)
next_of_register scene c _ way held = held

-- What a memory holds next.
abbrev pub next_of_memory : Scene → Component → Sort → Contents → Contents
next_of_memory scene c (A_memory memory) held = after_writes memory (scene.integers c.declaration.name) held
next_of_memory scene c _ held = held

-- The contents that a read of latency 1 takes: those before the writes for `old` and `undefined`, after them for `new`.
abbrev pub taken : Under → Contents → Contents → Contents
taken under.New before after = after
taken _ before after = before

-- What a port has read at the end of the cycle.
abbrev pub next_of_port : Scene → Component → Sort → Contents → ℕ → List PathStep → ℤ
next_of_port scene c (A_memory memory) held port way =
    let leaves = scene.integers c.declaration.name in
    read_by memory leaves (taken (under_of memory) held (after_writes memory leaves held)) port way
next_of_port scene c _ held port way = pos 0

-- The component of a name at a path, with its module.
abbrev pub located : Design → List ℕ → ℕ → Option (TypedModule × Component)
located design path name = option_and_then (λ m. option_map (λ c. (m, c)) (component_named m name)) (module_at design path)

-- what a component makes of what is held, and what is held where there is no component
abbrev pub where_located : {A : Type 0} → A → (TypedModule × Component → A) → Option (TypedModule × Component) → A
where_located held next (Some found) = next found
where_located held next None = held

-- The state after the cycle.
abbrev pub next : Design → State → Valuation → State
next design s rho = record {
  registers = λ path name way. where_located (s.registers path name way)
      (λ found. next_of_register (scene_of found.0 path rho) found.1 found.1.declaration.sort way (s.registers path name way)) (located design path name);
  contents = λ path name. where_located (s.contents path name)
      (λ found. next_of_memory (scene_of found.0 path rho) found.1 found.1.declaration.sort (s.contents path name)) (located design path name);
  captured = λ path name. where_located (s.captured path name)
      (λ found. next_of_port (scene_of found.0 path rho) found.1 found.1.declaration.sort (s.contents path name)) (located design path name);
}

-- Two states are the same as far as the design goes: in each register's leaf, in each leaf of each element of each memory, and in
-- what the ports of latency 1 have read.
pub record SameState (design : Design) (s t : State) : Type 0 where
  pub registers : (path : List ℕ) (m : TypedModule) (c : Component) (leaf : TypeLeaf) → Stands design path m c leaf → is_register c.declaration.sort ≡ true
      → s.registers path c.declaration.name leaf.path ≡ t.registers path c.declaration.name leaf.path
  pub contents : (path : List ℕ) (m : TypedModule) (c : Component) (memory : Memory) (typ : FirType) (leaf : TypeLeaf) (element : ℕ)
      → module_at design path ≡ Some m → component_named m c.declaration.name ≡ Some c → c.declaration.sort ≡ A_memory memory → IsElement c memory typ
      → Contains (leaves typ) leaf → element < depth_of memory
      → s.contents path c.declaration.name element leaf.path ≡ t.contents path c.declaration.name element leaf.path
  pub captured : (path : List ℕ) (m : TypedModule) (c : Component) (leaf : TypeLeaf) (memory : Memory) (port field : ℕ) (way : List PathStep)
      → Stands design path m c leaf → c.declaration.sort ≡ A_memory memory → read_latency_of memory ≢ 0 → leaf.flip ≡ false
      → leaf.path ≡ step.Field port ∷ step.Field field ∷ way → s.captured path c.declaration.name port way ≡ t.captured path c.declaration.name port way

-- The trace

-- main's leaves of flow sink that are no clocks, in port order
abbrev pub watched_of_component : Component → List Leaf
watched_of_component c =
    if is_port c.declaration.sort then map (leaf_of c) (filter (λ leaf. not (is_source (flow_of c.declaration.sort leaf.flip)) && not (is_clock leaf)) (leaves c.typ)) else []

-- those of all of main's components
abbrev pub watched_of : Option TypedModule → List Leaf
watched_of (Some m) = flat_map watched_of_component m.components
watched_of None = []

-- The leaves that a run is watched by.
abbrev pub watched : Design → List Leaf
watched design = watched_of (module_named design design.main)

-- They are leaves of main, which stands at the empty path.
abbrev pub main_leaf : Leaf → FlatLeaf
main_leaf leaf = record { path = []; component = leaf.component; way = leaf.way }

abbrev pub watched_leaves : Design → List FlatLeaf
watched_leaves design = map main_leaf (watched design)

-- the integers of some leaves of the run, and those of the watched ones
abbrev pub row_of : List FlatLeaf → Valuation → List ℤ
row_of watch rho = map (λ leaf. rho leaf.path leaf.component leaf.way) watch

abbrev pub row : Design → Valuation → List ℤ
row design rho = row_of (watched_leaves design) rho

-- The rows of some leaves of a run from a state under these inputs, cycle by cycle: each is that of a settled valuation, and the next
-- cycle begins with the state after it.
pub data WatchedTrace (design : Design) (watch : List FlatLeaf) : State → List Inputs → List (List ℤ) → Type 0 where
  ended : {s : State} → WatchedTrace design watch s [] []
  cycle : {s : State} {given : Inputs} {later : List Inputs} {rows : List (List ℤ)} (rho : Valuation) → Settled design s given rho
      → WatchedTrace design watch (next design s rho) later rows → WatchedTrace design watch s (given ∷ later) (row_of watch rho ∷ rows)

-- The rows of the leaves that a run is watched by.
abbrev pub Trace : Design → State → List Inputs → List (List ℤ) → Type 0
Trace design = WatchedTrace design (watched_leaves design)
