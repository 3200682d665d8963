-- Which Clock leaves of a module have their value from which leaves, by the statements of the module.
use Rattle.std.specs.Prelude.{ℕ, ◌&&◌, ◌++◌, not, List, [], ◌∷◌, map, flat_map, zip, if◌then◌else◌}
use Rattle.fir_types.specs.declared.leaf.TypeLeaf.{TypeLeaf}
use Rattle.fir_types.specs.declared.port.Port.{Port}
use Rattle.fir_types.specs.Leaves.{leaves, is_clock}
use Rattle.fir_tree.specs.declared.circuit.Module.{Module}
use Rattle.fir_tree.specs.declared.stmt.Stmt.{Stmt, fold-Stmt}
use Rattle.fir_tree.specs.declared.stmt.Arm.{Arm, fold-Arm}
use Rattle.fir_tree.specs.declared.stmt.Stmt.TheOpen.{Stmt-F, Arm-F}
use Rattle.fir_tree.specs.declared.stmt.Stmt.TheFolds.{map-Stmt, map-Arm}
use Rattle.fir_tree.specs.declared.stmt.Stmt.TheViews.{roll-Stmt, roll-Arm}
use Rattle.fir_meaning.specs.Components.{Leaf, Declaration, Sort, An_input, An_output, A_wire, A_register, A_reset_register, A_memory, An_instance, A_node, flow_of}
use Rattle.fir_meaning.specs.Mentions.{Scope}
use Rattle.fir_meaning.specs.States.{is_source}
use Rattle.fir_meaning.specs.ClockRoot.{Driver, Undriven, No_driver, From, named_leaves, driver_in}
use Rattle.drive_check.specs.Keys.{leaf_of_key}
use Rattle.clock_check.specs.declared.walk.Link.{Link}
use Rattle.clock_check.specs.declared.walk.Owner.{Owner}
use Rattle.clock_check.specs.declared.walk.Owner.TheVariants as owner

-- A Clock leaf, and the leaf that it has its value from.
abbrev pub Edge : Type 0
Edge = Leaf × Leaf

abbrev pub edges_of : List Link → List Edge
edges_of = map (λ link. (leaf_of_key link.sink, leaf_of_key link.source))

abbrev pub edge_from : Leaf → Driver → List Edge
edge_from x (From y) = (x, y) ∷ []
edge_from x Undriven = []
edge_from x No_driver = []

abbrev pub part_of : ℕ → TypeLeaf → Leaf
part_of name leaf = record { component = name; way = leaf.path }

-- a leaf that statements may drive
abbrev pub driven_edge : (Leaf → Driver) → Sort → ℕ → TypeLeaf → List Edge
driven_edge driver sort name leaf = if is_clock leaf && not (is_source (flow_of sort leaf.flip)) then edge_from (part_of name leaf) (driver (part_of name leaf)) else []

-- a leaf of a node, and what its expression has there
abbrev pub node_edge : ℕ → TypeLeaf × Leaf → List Edge
node_edge name both = if is_clock both.0 then (part_of name both.0, both.1) ∷ [] else []

-- as far as flow is concerned
abbrev pub sort_of : Owner → Sort
sort_of owner.Input = An_input
sort_of owner.Output = An_output
sort_of owner.Duplex = A_wire
sort_of owner.Inner = An_instance 0

-- a statement: the edges of the declarations in the blocks within it, and those of its own, from what drives the leaves of its block
pub record Walked : Type 0 where
  pub itself : Stmt
  pub inner : List Edge
  pub own : (Leaf → Driver) → List Edge

pub record WalkedArm : Type 0 where
  pub itself : Arm
  pub edges : List Edge

module _ (types : Scope) where
  abbrev pub driven_edges : (Leaf → Driver) → ℕ → Sort → List Edge
  driven_edges driver name sort = flat_map (driven_edge driver sort name) (leaves (types name))

  abbrev pub node_edges : ℕ → Sort → List Edge
  node_edges name (A_node e) = flat_map (node_edge name) (zip (leaves (types name)) (named_leaves types e))
  node_edges name _ = []

  -- both
  abbrev pub own_edges : (Leaf → Driver) → ℕ → Sort → List Edge
  own_edges driver name sort = driven_edges driver name sort ++ node_edges name sort

  -- those of a declaration, from the statements of its block
  abbrev pub edges_by : Declaration → List Edge
  edges_by d = own_edges (λ leaf. driver_in types leaf d.block) d.name d.sort

  -- what drives the leaves of a block
  abbrev pub block_driver : List Walked → Leaf → Driver
  block_driver ws leaf = driver_in types leaf (map (λ w. w.itself) ws)

  abbrev pub edges_in : List Walked → List Edge
  edges_in ws = flat_map (λ w. w.inner) ws ++ flat_map (λ w. w.own (block_driver ws)) ws

  abbrev pub inner_of : Stmt-F Walked WalkedArm → List Edge
  inner_of (Stmt-F.When arms other) = flat_map (λ a. a.edges) arms ++ edges_in other
  inner_of _ = []

  abbrev pub own_of : Stmt-F Walked WalkedArm → (Leaf → Driver) → List Edge
  own_of (Stmt-F.Wire name typ) driver = own_edges driver name.id A_wire
  own_of (Stmt-F.Reg name typ clock) driver = own_edges driver name.id (A_register clock)
  own_of (Stmt-F.RegReset name typ clock reset init) driver = own_edges driver name.id (A_reset_register clock reset init)
  own_of (Stmt-F.Mem memory) driver = own_edges driver memory.name.id (A_memory memory)
  own_of (Stmt-F.Inst name target) driver = own_edges driver name.id (An_instance target.id)
  own_of (Stmt-F.Node name expr) driver = own_edges driver name.id (A_node expr)
  own_of _ driver = []

  abbrev pub of_stmt : Stmt-F Walked WalkedArm → Walked
  of_stmt s = record { itself = roll-Stmt (map-Stmt Walked WalkedArm Stmt Arm (λ w. w.itself) (λ a. a.itself) s); inner = inner_of s; own = own_of s }

  abbrev pub of_arm : Arm-F Walked WalkedArm → WalkedArm
  of_arm a = record { itself = roll-Arm (map-Arm Walked WalkedArm Stmt Arm (λ w. w.itself) (λ x. x.itself) a); edges = edges_in a.body }

  abbrev pub walked : Stmt → Walked
  walked = fold-Stmt Walked WalkedArm of_stmt of_arm

  abbrev pub walked_arm : Arm → WalkedArm
  walked_arm = fold-Arm Walked WalkedArm of_stmt of_arm

  -- those of a port, from what drives the leaves of the body
  abbrev pub port_edges : (Leaf → Driver) → Port → List Edge
  port_edges driver port = own_edges driver port.name.id (if port.output then An_output else An_input)

  -- Those of a module whose components have these types by name.
  abbrev pub module_edges : Module → List Edge
  module_edges holder = edges_in (map walked holder.body) ++ flat_map (port_edges (block_driver (map walked holder.body))) holder.ports
