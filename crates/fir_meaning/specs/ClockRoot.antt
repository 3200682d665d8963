-- The clock of a circuit (FIRRTL specification 3.0, "Clock" under "Ground Types"): every clock leads to one input.
--
-- The driver of a node's Clock leaf is the node's expression. For any other Clock leaf take the last statement in text order
-- that may drive it: it is the driver where it is a connect without a dynamic index and with no condition to cross.
use Rattle.std.specs.Prelude.{◌≡◌, ℕ, ◌&&◌, Bool, true, false, List, [], ◌∷◌, map, filter, flat_map, fold, zip, slice_get, Contains, Option, Some, None, option_map, if◌then◌else◌}
use Rattle.fir_types.specs.declared.leaf.TypeLeaf.{TypeLeaf}
use Rattle.fir_types.specs.declared.leaf.PathStep.TheVariants as step
use Rattle.fir_types.specs.declared.memory.Memory.{Memory}
use Rattle.fir_types.specs.Leaves.{leaves}
use Rattle.fir_types.specs.Bundles.{clk_name}
use Rattle.fir_tree.specs.declared.expr.Expr.{Expr}
use Rattle.fir_tree.specs.declared.stmt.Stmt.{Stmt, fold-Stmt}
use Rattle.fir_tree.specs.declared.stmt.Stmt.TheOpen.{Stmt-F, Arm-F}
use Rattle.fir_meaning.specs.Components.{Design, TypedModule, Component, Leaf, FlatLeaf, Sort, A_register, A_reset_register, A_memory, A_node, flow_of, flat, is_clock, type_in, module_at, module_named, component_named}
use Rattle.fir_meaning.specs.MemoryPorts.{MemoryPort, memory_ports}
use Rattle.fir_meaning.specs.Mentions.{Scope, Region, region_of, leaves_at}
use Rattle.fir_meaning.specs.Certain.{may_be, may_name}
use Rattle.fir_meaning.specs.States.{Stands, leaf_of, is_port, is_source}

-- The leaves of a reference in order; none where it has a dynamic index, and none of another expression.
abbrev pub leaves_of_region : Option Region → List Leaf
leaves_of_region (Some region) = if region.dynamic then [] else flat_map (λ part. leaves_at region part.path) (leaves region.typ)
leaves_of_region None = []

-- the leaves that an expression names, where it is a reference without a dynamic index
abbrev pub named_leaves : Scope → Expr → List Leaf
named_leaves types e = leaves_of_region (region_of types e)

-- What is known of a leaf's driver behind some statements: nothing drove it, it has no driver, or it gets what this leaf has.
pub data Driver : Type 0 where
  Undriven : Driver
  No_driver : Driver
  From : Leaf → Driver

-- A connect is the driver where neither side has a dynamic index, and the other side's part at the same place is the source.
abbrev pub source_at : Bool → Leaf → Region → List Leaf → Driver
source_at flip leaf region sources =
    fold (λ driver both. if may_be flip region leaf both.0 then From both.1 else driver) No_driver (zip (leaves region.typ) sources)

-- a connect through a dynamic index is no driver
abbrev pub source_for : Bool → Leaf → Option Region → List Leaf → Driver
source_for flip leaf (Some region) sources = if region.dynamic then No_driver else source_at flip leaf region sources
source_for flip leaf None sources = No_driver

-- A driver in a branch has a condition to cross.
abbrev pub in_branch : Driver → Driver → Driver
in_branch last Undriven = last
in_branch last _ = No_driver

-- what is known behind all of the statements
abbrev pub last_of : List (Driver → Driver) → Driver → Driver
last_of [] last = last
last_of (s ∷ later) last = last_of later (s last)

module _ (types : Scope) (leaf : Leaf) where
  -- what is known of the driver behind a statement, from what was known before it
  abbrev pub of_stmt : Stmt-F (Driver → Driver) (Driver → Driver) → Driver → Driver
  of_stmt (Stmt-F.Connect left right) last =
      if may_name false (region_of types left) leaf then source_for false leaf (region_of types left) (named_leaves types right)
      else if may_name true (region_of types right) leaf then source_for true leaf (region_of types right) (named_leaves types left)
      else last
  of_stmt (Stmt-F.Invalidate target) last =
      if may_name false (region_of types target) leaf then No_driver
      else if may_name true (region_of types target) leaf then No_driver
      else last
  of_stmt (Stmt-F.When arms other) last = in_branch last (last_of other (last_of arms Undriven))
  of_stmt _ last = last

  -- an arm does what its statements do
  abbrev pub of_arm : Arm-F (Driver → Driver) (Driver → Driver) → Driver → Driver
  of_arm a = last_of a.body

  -- The same for every statement.
  abbrev pub driven_by : Stmt → Driver → Driver
  driven_by = fold-Stmt (Driver → Driver) (Driver → Driver) of_stmt of_arm

  -- The driver of the leaf in a block.
  abbrev pub driver_in : List Stmt → Driver
  driver_in block = last_of (map driven_by block) Undriven

-- A Clock leaf of the run gets what another leaf has.
pub data ClockFrom (design : Design) : FlatLeaf → FlatLeaf → Type 0 where
  by_connect : (path : List ℕ) (m : TypedModule) (c : Component) (leaf : TypeLeaf) (y : Leaf) → Stands design path m c leaf → is_clock leaf ≡ true
      → is_source (flow_of c.declaration.sort leaf.flip) ≡ false → driver_in (type_in m) (leaf_of c leaf) c.declaration.block ≡ From y
      → ClockFrom design (flat m path (leaf_of c leaf)) (flat m path y)
  by_node : (path : List ℕ) (m : TypedModule) (c : Component) (leaf : TypeLeaf) (e : Expr) (k : ℕ) (y : Leaf) → Stands design path m c leaf → is_clock leaf ≡ true
      → c.declaration.sort ≡ A_node e → slice_get (leaves c.typ) k ≡ Some leaf → slice_get (named_leaves (type_in m) e) k ≡ Some y
      → ClockFrom design (flat m path (leaf_of c leaf)) (flat m path y)

-- main's Clock inputs, in port order
abbrev pub clock_inputs_of_component : Component → List Leaf
clock_inputs_of_component c =
    if is_port c.declaration.sort then map (leaf_of c) (filter (λ leaf. is_source (flow_of c.declaration.sort leaf.flip) && is_clock leaf) (leaves c.typ)) else []

-- those of all components
abbrev pub clock_inputs_of : Option TypedModule → List Leaf
clock_inputs_of (Some m) = flat_map clock_inputs_of_component m.components
clock_inputs_of None = []

-- Main's first Clock input leaf.
abbrev pub clock_root : Design → Option FlatLeaf
clock_root design =
    option_map (λ leaf. record { path = []; component = leaf.component; way = leaf.way }) (slice_get (clock_inputs_of (module_named design design.main)) 0)

-- The Clock leaf leads to it.
pub data IsRooted (design : Design) : FlatLeaf → Type 0 where
  at_root : {x : FlatLeaf} → clock_root design ≡ Some x → IsRooted design x
  onward : {x y : FlatLeaf} → ClockFrom design x y → IsRooted design y → IsRooted design x

-- the clock of a register
abbrev pub clock_of : Sort → Option Expr
clock_of (A_register clock) = Some clock
clock_of (A_reset_register clock reset init) = Some clock
clock_of _ = None

-- The clock of each register and of each memory port leads to main's first Clock input, at every path.
pub record HasOneClock (design : Design) : Type 0 where
  pub registers : (path : List ℕ) (m : TypedModule) (c : Component) (clock : Expr) → module_at design path ≡ Some m
      → component_named m c.declaration.name ≡ Some c → clock_of c.declaration.sort ≡ Some clock
      → (leaf : Leaf) × (slice_get (named_leaves (type_in m) clock) 0 ≡ Some leaf) × IsRooted design (flat m path leaf)
  pub ports : (path : List ℕ) (m : TypedModule) (c : Component) (memory : Memory) (port : MemoryPort) → module_at design path ≡ Some m
      → component_named m c.declaration.name ≡ Some c → c.declaration.sort ≡ A_memory memory → Contains (memory_ports memory) port
      → IsRooted design (flat m path (record { component = c.declaration.name; way = step.Field port.name ∷ step.Field clk_name ∷ [] }))
