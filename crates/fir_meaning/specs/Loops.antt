-- What a leaf reads within a cycle, and combinational loops (FIRRTL specification 3.0, "Combinational Loops").
--
-- A connect is live for a leaf where no later statement of its own block, or of a block around it within the leaf's block, is
-- certain for the leaf. An `invalidate` counts as a connect whose source mentions nothing.
use Rattle.std.specs.Prelude.{◌≡◌, ◌≢◌, ℕ, ◌++◌, Bool, true, false, List, [], ◌∷◌, map, filter_map, slice_get, Contains, Option, Some, None, if◌then◌else◌}
use Rattle.std.specs.List.{list_any}
use Rattle.fir_types.specs.declared.leaf.TypeLeaf.{TypeLeaf}
use Rattle.fir_types.specs.declared.leaf.PathStep.{PathStep}
use Rattle.fir_types.specs.declared.leaf.PathStep.TheVariants as step
use Rattle.fir_types.specs.declared.memory.Memory.{Memory}
use Rattle.fir_types.specs.declared.memory.PortMode.{PortMode}
use Rattle.fir_types.specs.declared.memory.PortMode.TheVariants as mode
use Rattle.fir_types.specs.Leaves.{leaves}
use Rattle.fir_types.specs.Memories.{read_latency_of}
use Rattle.fir_types.specs.Bundles.{addr_name, en_name, data_name, mask_name, wmode_name, wdata_name, wmask_name}
use Rattle.fir_tree.specs.declared.expr.Expr.{Expr}
use Rattle.fir_tree.specs.declared.stmt.Stmt.{Stmt, fold-Stmt}
use Rattle.fir_tree.specs.declared.stmt.Stmt.TheOpen.{Stmt-F, Arm-F}
use Rattle.fir_tree.specs.declared.stmt.Stmt.TheFolds.{map-Stmt}
use Rattle.fir_meaning.specs.Components.{Design, TypedModule, Component, Leaf, FlatLeaf, flat, A_memory, A_node, A_reset_register, is_clock, type_in}
use Rattle.fir_meaning.specs.Values.{beside}
use Rattle.fir_meaning.specs.MemoryPorts.{MemoryPort, memory_ports, port_named}
use Rattle.fir_meaning.specs.Mentions.{Scope, Region, joined, mentions, region_of, whole_region}
use Rattle.fir_meaning.specs.Certain as certainty
use Rattle.fir_meaning.specs.Certain.{may_be}
use Rattle.fir_meaning.specs.States.{Stands, IsLeafOf, leaf_of, is_driven, is_register}

-- A connect that drives the leaf, as the list of what it mentions for it.
abbrev pub Mentioned : Type 0
Mentioned = List Leaf

-- What a statement is to the leaf: whether it is certain for it, and the connects in it that are live so far.
pub record Driving : Type 0 where
  pub certain : Bool
  pub live : List Mentioned

-- An arm, with what its condition mentions.
pub record DrivingArm : Type 0 where
  pub condition : Mentioned
  pub certain : Bool
  pub live : List Mentioned

-- What the leaf is driven from, where the driven side has a part that may be it: what the other side mentions at the same
-- place, and the indices of the driven side.
abbrev pub driven_from : Bool → Leaf → List (List Leaf) → Option Region → List Mentioned
driven_from flip leaf sources (Some region) =
    filter_map (λ both. if may_be flip region leaf both.0 then Some (region.indices ++ both.1) else None) (beside [] (leaves region.typ) sources)
driven_from flip leaf sources None = []

-- What later statements cover counts for nothing.
abbrev pub live_from : List Driving → List Mentioned
live_from [] = []
live_from (s ∷ later) = (if list_any (λ t. t.certain) later then [] else s.live) ++ live_from later

-- A connect in an arm crosses the arm's condition and those of all arms before it, and one in the `else` all of them.
abbrev pub crossing : Mentioned → List Mentioned → List Mentioned
crossing conditions = map (λ leaves. conditions ++ leaves)

-- the live connects of all arms, behind these conditions, and then those of the `else`
abbrev pub through_arms : Mentioned → List DrivingArm → List Mentioned → List Mentioned
through_arms conditions [] other = crossing conditions other
through_arms conditions (arm ∷ arms) other =
    crossing (conditions ++ arm.condition) arm.live ++ through_arms (conditions ++ arm.condition) arms other

module _ (types : Scope) (leaf : Leaf) where
  -- The live connects in each kind of statement.
  abbrev pub live_in : Stmt-F Driving DrivingArm → List Mentioned
  live_in (Stmt-F.Connect left right) =
      driven_from false leaf (mentions right types) (region_of types left) ++ driven_from true leaf (mentions left types) (region_of types right)
  live_in (Stmt-F.Invalidate target) =
      driven_from false leaf [] (region_of types target) ++ driven_from true leaf [] (region_of types target)
  live_in (Stmt-F.When arms other) = through_arms [] arms (live_from other)
  live_in _ = []

  -- a statement: whether it is certain, and its live connects
  abbrev pub of_stmt : Stmt-F Driving DrivingArm → Driving
  of_stmt s = record { certain = certainty.of_stmt types leaf (map-Stmt Driving DrivingArm Bool Bool (λ t. t.certain) (λ a. a.certain) s); live = live_in s }

  -- an arm: what its condition mentions, whether it is certain, and its live connects
  abbrev pub of_arm : Arm-F Driving DrivingArm → DrivingArm
  of_arm a = record { condition = joined (mentions a.condition types); certain = list_any (λ s. s.certain) a.body; live = live_from a.body }

  -- What a statement is to the leaf.
  abbrev pub driving : Stmt → Driving
  driving = fold-Stmt Driving DrivingArm of_stmt of_arm

  -- The live connects of the leaf in a block.
  abbrev pub live : List Stmt → List Mentioned
  live block = live_from (map driving block)

-- The fields that a latency-0 read goes by: a readwriter's `wmode` too.
abbrev pub read_goes_by : PortMode → List ℕ
read_goes_by mode.ReadWriter = addr_name ∷ en_name ∷ wmode_name ∷ []
read_goes_by _ = addr_name ∷ en_name ∷ []

-- A leaf of the run reads another within the cycle. Registers, captured reads, main's inputs and Clock leaves read nothing.
pub data ReadsLeaf (design : Design) : FlatLeaf → FlatLeaf → Type 0 where
  -- a driven leaf reads what its live connects mention
  by_connect : (path : List ℕ) (m : TypedModule) (c : Component) (leaf : TypeLeaf) (y : Leaf) → Stands design path m c leaf → is_driven c leaf ≡ true
      → Contains (joined (live (type_in m) (leaf_of c leaf) c.declaration.block)) y → ReadsLeaf design (flat m path (leaf_of c leaf)) (flat m path y)
  -- a node's leaf reads what its expression mentions for it
  by_node : (path : List ℕ) (m : TypedModule) (c : Component) (leaf : TypeLeaf) (e : Expr) (k : ℕ) (mentioned : Mentioned) (y : Leaf)
      → Stands design path m c leaf → c.declaration.sort ≡ A_node e → is_clock leaf ≡ false → slice_get (leaves c.typ) k ≡ Some leaf
      → slice_get (mentions e (type_in m)) k ≡ Some mentioned → Contains mentioned y → ReadsLeaf design (flat m path (leaf_of c leaf)) (flat m path y)
  -- a read of latency 0 reads its port's address and enable
  by_port : (path : List ℕ) (m : TypedModule) (c : Component) (leaf : TypeLeaf) (memory : Memory) (port : MemoryPort) (name field : ℕ) (way : List PathStep)
      → Stands design path m c leaf → c.declaration.sort ≡ A_memory memory → read_latency_of memory ≡ 0 → leaf.flip ≡ false
      → leaf.path ≡ step.Field name ∷ step.Field field ∷ way → port_named memory name ≡ Some port → (by : ℕ) → Contains (read_goes_by port.mode) by
      → ReadsLeaf design (flat m path (leaf_of c leaf)) (flat m path (record { component = c.declaration.name; way = step.Field name ∷ step.Field by ∷ [] }))

-- One leaf reads another directly, or through others.
pub data ReadsThrough (design : Design) : FlatLeaf → FlatLeaf → Type 0 where
  directly : {x y : FlatLeaf} → ReadsLeaf design x y → ReadsThrough design x y
  through : {x y z : FlatLeaf} → ReadsLeaf design x y → ReadsThrough design y z → ReadsThrough design x z

-- A loop is a chain of reads from a leaf to itself.
pub record HasNoLoop (design : Design) : Type 0 where
  pub none : (x : FlatLeaf) → ¬ (ReadsThrough design x x)

-- These are all leaves of the run, and what a leaf reads is one of them: so it is in an accepted circuit, whose instances end.
pub record HasLeaves (design : Design) (all : List FlatLeaf) : Type 0 where
  pub listed : (x : FlatLeaf) → IsLeafOf design x → Contains all x
  pub closed : (x y : FlatLeaf) → ReadsLeaf design x y → IsLeafOf design y

-- What the edge takes: of which leaves of the cycle the next state is made. A register's leaf takes what its live connects mention,
-- its reset, and of `init` what a connect of it would mention for the leaf. What a memory holds next in the leaves that a port's
-- read data show is taken from the ports that write; what a port of latency 1 shows next, from its own address and enable too.

-- the leaves of a port that a write to the element's leaf at this way goes by
abbrev pub write_goes_by : PortMode → List PathStep → List (List PathStep)
write_goes_by mode.Reader way = []
write_goes_by mode.Writer way =
    (step.Field en_name ∷ []) ∷ (step.Field addr_name ∷ []) ∷ (step.Field data_name ∷ way) ∷ (step.Field mask_name ∷ way) ∷ []
write_goes_by mode.ReadWriter way =
    (step.Field en_name ∷ []) ∷ (step.Field addr_name ∷ []) ∷ (step.Field wdata_name ∷ way) ∷ (step.Field wmask_name ∷ way) ∷ (step.Field wmode_name ∷ []) ∷ []

-- A read data leaf of a memory's port, at this way of its element.
pub record IsRead (c : Component) (leaf : TypeLeaf) (memory : Memory) (port : ℕ) (way : List PathStep) : Type 0 where
  pub sort : c.declaration.sort ≡ A_memory memory
  pub source : leaf.flip ≡ false
  pub field : ℕ
  pub is : leaf.path ≡ step.Field port ∷ step.Field field ∷ way

-- The edge takes a leaf of the cycle for the next state of another.
pub data TakesFrom (design : Design) : FlatLeaf → FlatLeaf → Type 0 where
  by_live_connect : (path : List ℕ) (m : TypedModule) (c : Component) (leaf : TypeLeaf) (y : Leaf) → Stands design path m c leaf → is_register c.declaration.sort ≡ true
      → Contains (joined (live (type_in m) (leaf_of c leaf) c.declaration.block)) y → TakesFrom design (flat m path (leaf_of c leaf)) (flat m path y)
  by_reset : (path : List ℕ) (m : TypedModule) (c : Component) (leaf : TypeLeaf) (clock reset init : Expr) (y : Leaf) → Stands design path m c leaf
      → c.declaration.sort ≡ A_reset_register clock reset init → Contains (joined (mentions reset (type_in m))) y
      → TakesFrom design (flat m path (leaf_of c leaf)) (flat m path y)
  by_init : (path : List ℕ) (m : TypedModule) (c : Component) (leaf : TypeLeaf) (clock reset init : Expr) (y : Leaf) → Stands design path m c leaf
      → c.declaration.sort ≡ A_reset_register clock reset init
      → Contains (joined (driven_from false (leaf_of c leaf) (mentions init (type_in m)) (Some (whole_region (type_in m) c.declaration.name)))) y
      → TakesFrom design (flat m path (leaf_of c leaf)) (flat m path y)
  by_write : (path : List ℕ) (m : TypedModule) (c : Component) (leaf : TypeLeaf) (memory : Memory) (port : ℕ) (way : List PathStep) (writer : MemoryPort)
      (by : List PathStep) → Stands design path m c leaf → IsRead c leaf memory port way → Contains (memory_ports memory) writer
      → Contains (write_goes_by writer.mode way) by
      → TakesFrom design (flat m path (leaf_of c leaf)) (flat m path (record { component = c.declaration.name; way = step.Field writer.name ∷ by }))
  by_read : (path : List ℕ) (m : TypedModule) (c : Component) (leaf : TypeLeaf) (memory : Memory) (name : ℕ) (way : List PathStep) (port : MemoryPort) (by : ℕ)
      → Stands design path m c leaf → IsRead c leaf memory name way → read_latency_of memory ≢ 0 → port_named memory name ≡ Some port
      → Contains (read_goes_by port.mode) by
      → TakesFrom design (flat m path (leaf_of c leaf)) (flat m path (record { component = c.declaration.name; way = step.Field name ∷ step.Field by ∷ [] }))

-- What the edge takes are leaves of the run: so it is in an accepted circuit.
pub record TakesLeaves (design : Design) : Type 0 where
  pub closed : (x y : FlatLeaf) → TakesFrom design x y → IsLeafOf design y
