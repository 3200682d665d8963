-- What it is to be the flat circuit of a circuit (FIRRTL specification 3.0, "Instances"): its leaves in flat order, what statements
-- leave in them, and its memories.
use Rattle.std.specs.Prelude.{◌≡◌, ℕ, true, false, List, [], map, length, slice_get, Some}
use Rattle.bit_words.specs.Values.{integer_of}
use Rattle.fir_types.specs.declared.fir_type.FirType.{FirType}
use Rattle.fir_types.specs.declared.leaf.TypeLeaf.{TypeLeaf}
use Rattle.fir_types.specs.declared.memory.Memory.{Memory}
use Rattle.fir_types.specs.Leaves.{leaves}
use Rattle.fir_tree.specs.declared.expr.Expr.{Expr}
use Rattle.fir_tree.specs.declared.scope.Fitted.{Fitted}
use Rattle.fir_tree.specs.LeafNames.{Texts}
use Rattle.prim_ops.specs.Shapes.{shape_of_value}
use Rattle.fir_meaning.specs.Components.{TypedModule, Component, A_node, design_of, module_named, flat, is_clock, kind_of_leaf, width_of_leaf}
use Rattle.fir_meaning.specs.Values.{scene_of}
use Rattle.fir_meaning.specs.Values as tree
use Rattle.fir_meaning.specs.Drives.{drives}
use Rattle.fir_meaning.specs.States.{Stands, is_driven, leaf_of}
use Rattle.fir_meaning.specs.WellTyped.{leaf_shape}
use Rattle.ground_net.specs.declared.ground.Ground.{Ground}
use Rattle.ground_net.specs.declared.circuit.FlatCircuit.{FlatCircuit}
use Rattle.ground_net.specs.declared.circuit.GroundLeaf.{GroundLeaf}
use Rattle.ground_net.specs.declared.circuit.GroundMemory.{GroundMemory}
use Rattle.ground_net.specs.declared.net.NetMemory.{NetMemory}
use Rattle.ground_net.specs.Grounds.{Instant, value}
use Rattle.net_of_circuit.specs.FlatOrder.{Placed, InFlatOrder, Standing, all_leaves, all_memories, flat_of}
use Rattle.net_of_circuit.specs.NetOf.{IsMemoryOf, valuation_of, flat_text}
use Rattle.memory_ports.specs.Placing.{own_driver, without_word}

-- Each leaf of the circuit is seen as a value of its kind and width.
pub record SeesLeaves (placed : List Placed) (instant : Instant) : Type 0 where
  pub each : (x : ℕ) (y : Standing) → slice_get (all_leaves placed) x ≡ Some y → shape_of_value (instant.leaf x) ≡ leaf_shape y.1

-- A flat leaf is a leaf of the circuit: its name, kind and width, and the place of its component's name.
pub record IsFlatLeafOf (texts : Texts) (y : Standing) (leaf : GroundLeaf) : Type 0 where
  pub name : leaf.name ≡ flat_text texts (flat_of y)
  pub kind : leaf.kind ≡ kind_of_leaf y.1
  pub width : leaf.width ≡ width_of_leaf y.1
  pub place : leaf.place ≡ y.0.c.declaration.place

-- The flat circuit is that of a circuit. A driver has, at every instant of the circuit's leaves, what the statements leave in its leaf.
pub record IsFlatOf (fitted : Fitted) (it : FlatCircuit) : Type 0 where
  pub main : TypedModule
  pub found : module_named (design_of fitted) (design_of fitted).main ≡ Some main
  pub placed : List Placed
  pub order : InFlatOrder (design_of fitted) [] main main.components placed
  pub counted : length it.leaves ≡ length (all_leaves placed)
  pub leaves_are : (x : ℕ) (y : Standing) (leaf : GroundLeaf) → slice_get (all_leaves placed) x ≡ Some y → slice_get it.leaves x ≡ Some leaf → IsFlatLeafOf fitted.checked.resolved.names y leaf
  -- what statements leave in a leaf; the input of an instance is driven where the instance stands
  pub driven : (path : List ℕ) (m : TypedModule) (c : Component) (leaf : TypeLeaf) (x : ℕ) (y : Standing) (driver : Ground) (instant : Instant) → Stands (design_of fitted) path m c leaf → is_driven c leaf ≡ true
      → slice_get (all_leaves placed) x ≡ Some y → flat m path (leaf_of c leaf) ≡ flat_of y → own_driver it x ≡ Some driver → SeesLeaves placed instant
      → drives (scene_of m path (valuation_of (all_leaves placed) instant)) (leaf_of c leaf) c.declaration.block ≡ Some (integer_of (value driver instant))
  -- the value of a node's expression
  pub nodes : (x : ℕ) (y : Standing) (e : Expr) (k : ℕ) (driver : Ground) (instant : Instant) → slice_get (all_leaves placed) x ≡ Some y → y.0.c.declaration.sort ≡ A_node e → is_clock y.1 ≡ false
      → slice_get (leaves y.0.c.typ) k ≡ Some y.1 → own_driver it x ≡ Some driver → SeesLeaves placed instant
      → slice_get (map integer_of (tree.value e (scene_of y.0.m y.0.path (valuation_of (all_leaves placed) instant)))) k ≡ Some (integer_of (value driver instant))
  -- a memory, where the net's one is the flat circuit's
  pub elements : List FirType
  pub all_memories_there : length it.memories ≡ length (all_memories placed)
  pub all_elements_there : length elements ≡ length (all_memories placed)
  pub memories : (k : ℕ) (p : Placed) (memory : Memory) (element : FirType) (held : GroundMemory) (nm : NetMemory) → slice_get (all_memories placed) k ≡ Some (p, memory) → slice_get elements k ≡ Some element
      → slice_get it.memories k ≡ Some held → without_word nm ≡ held → IsMemoryOf fitted.checked.resolved.names placed p memory element nm
