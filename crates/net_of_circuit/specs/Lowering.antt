-- What it is to be the ground statements of a circuit.
--
-- Of each leaf of a module, and at every instant in range, the ground statements leave what the statements of its component's block do,
-- and they read the same leaves.
use Rattle.std.specs.Prelude.{◌≡◌, ℕ, true, false, not, ◌==◌, List, [], ◌∷◌, map, length, slice_get, sum_by, take, Option, Some, None, option_map, if◌then◌else◌}
use Rattle.bit_words.specs.declared.value.Kind.TheVariants.{Unsigned}
use Rattle.bit_words.specs.Values.{integer_of}
use Rattle.fir_types.specs.declared.fir_type.FirType.{FirType}
use Rattle.fir_types.specs.declared.leaf.TypeLeaf.{TypeLeaf}
use Rattle.fir_types.specs.declared.leaf.PathStep.TheVariants as step
use Rattle.fir_types.specs.declared.memory.Memory.{Memory}
use Rattle.fir_types.specs.Leaves.{leaves}
use Rattle.fir_types.specs.Memories.{depth_of, read_latency_of, under_of}
use Rattle.fir_types.specs.Bundles.{addr_name, en_name, wmode_name}
use Rattle.fir_tree.specs.declared.circuit.Circuit.{Circuit}
use Rattle.fir_tree.specs.declared.expr.Expr.{Expr}
use Rattle.fir_tree.specs.declared.scope.Fitted.{Fitted}
use Rattle.fir_names.specs.Scopes.{Means}
use Rattle.fir_tree.specs.LeafNames.{Texts, text_of, way_text, leaf_text}
use Rattle.prim_ops.specs.Values.{is_one as is_one_value}
use Rattle.fir_meaning.specs.Components.{TypedModule, Component, Leaf, Sort, A_register, A_reset_register, A_node, is_clock, kind_of_leaf, width_of_leaf, type_in, modules_of}
use Rattle.fir_meaning.specs.Values as tree
use Rattle.fir_meaning.specs.Values.{whole}
use Rattle.fir_meaning.specs.Drives as tree_drives
use Rattle.fir_meaning.specs.Drives.{left_in, set_at}
use Rattle.fir_meaning.specs.Mentions as tree_reads
use Rattle.fir_meaning.specs.Mentions.{whole_region}
use Rattle.fir_meaning.specs.Loops as tree_loops
use Rattle.fir_meaning.specs.Loops.{driven_from}
use Rattle.fir_meaning.specs.MemoryPorts.{MemoryPort, memory_ports, written_field, mask_field}
use Rattle.fir_meaning.specs.Elements.{IsElement}
use Rattle.fir_meaning.specs.States.{is_port, leaf_of}
use Rattle.fir_meaning.specs.WellTyped.{leaf_shape}
use Rattle.ground_net.specs.declared.circuit.GroundCircuit.{GroundCircuit}
use Rattle.ground_net.specs.declared.circuit.GroundModule.{GroundModule}
use Rattle.ground_net.specs.declared.circuit.GroundLeaf.{GroundLeaf}
use Rattle.ground_net.specs.declared.circuit.GroundMemory.{GroundMemory}
use Rattle.ground_net.specs.declared.circuit.GroundInstance.{GroundInstance}
use Rattle.ground_net.specs.declared.net.NetRegister.{NetRegister}
use Rattle.ground_net.specs.declared.net.NetReset.{NetReset}
use Rattle.ground_net.specs.declared.net.NetPort.{NetPort}
use Rattle.ground_net.specs.declared.net.NetWrite.{NetWrite}
use Rattle.ground_net.specs.declared.net.NetRead.{NetRead}
use Rattle.ground_net.specs.declared.net.ElementLeaf.{ElementLeaf}
use Rattle.ground_net.specs.Grounds.{Instant, value, mentions, joined}
use Rattle.ground_net.specs.Statements.{drives, live}
use Rattle.ground_net.specs.Shapes.{Table, HasShapes, shape, shaped}
use Rattle.ground_net.specs.StatementShapes.{is_shaped}
use Rattle.net_of_circuit.specs.NetOf.{may_write, may_read, has_mode, read_field, is_new}
use Rattle.net_of_circuit.specs.Numbers.{ModuleLeaf, module_leaves, number_of, scene_at, role_of, is_set, table_of, SameReads, leaves_before, memory_parts, instance_parts, register_numbers}

-- A leaf of the ground module is one of the module's.
pub record IsGroundLeaf (texts : Texts) (y : ModuleLeaf) (leaf : GroundLeaf) : Type 0 where
  pub name : leaf.name ≡ leaf_text texts y.0.declaration.name y.1.path
  pub kind : leaf.kind ≡ kind_of_leaf y.1
  pub width : leaf.width ≡ width_of_leaf y.1
  pub place : leaf.place ≡ y.0.declaration.place
  pub role : leaf.role ≡ role_of y

-- Registers

-- The reset and the `init` of a register's leaf: at every instant in range the reset holds where the register's does, and `init` is what a
-- reset sets in the leaf; they read the same leaves.
pub record IsReset (m : TypedModule) (table : Table) (y : ModuleLeaf) (reset init : Expr) (r : NetReset) : Type 0 where
  pub holds : (instant : Instant) → HasShapes table instant → is_one_value (value r.reset instant) ≡ tree.is_one (tree.value reset (scene_at m instant))
  pub taken : (instant : Instant) → HasShapes table instant
      → left_in (leaf_of y.0 y.1) None (set_at false (Some (whole (scene_at m instant) y.0.declaration.name)) (tree.value init (scene_at m instant))) ≡ Some (integer_of (value r.init instant))
  pub reset_reads : SameReads m (tree_reads.joined (tree_reads.mentions reset (type_in m))) (mentions r.reset)
  pub init_reads : SameReads m (tree_reads.joined (driven_from false (leaf_of y.0 y.1) (tree_reads.mentions init (type_in m)) (Some (whole_region (type_in m) y.0.declaration.name)))) (mentions r.init)
  pub reset_shape : (w : ℕ) × (shape r.reset table ≡ Some (shaped Unsigned w))
  pub init_shape : shape r.init table ≡ Some (leaf_shape y.1)

-- what a register has for a reset
abbrev pub HasReset : TypedModule → Table → ModuleLeaf → Sort → Option NetReset → Type 0
HasReset m table y (A_register clock) r = r ≡ None
HasReset m table y (A_reset_register clock reset init) r = (n : NetReset) × (r ≡ Some n) × IsReset m table y reset init n
HasReset m table y _ r = ⊥

-- Memories

-- The numbers are those of the leaves of a port's field, leaf by leaf of an element.
pub record AreOfField (m : TypedModule) (c : Component) (port field : ℕ) (element : FirType) (numbers : List ℕ) : Type 0 where
  pub counted : length numbers ≡ length (leaves element)
  pub each : (k x : ℕ) (leaf : TypeLeaf) → slice_get numbers k ≡ Some x → slice_get (leaves element) k ≡ Some leaf
      → number_of m (record { component = c.declaration.name; way = step.Field port ∷ step.Field field ∷ leaf.path }) ≡ Some x

-- the number of a field of one leaf of a port
abbrev pub field_number : TypedModule → Component → ℕ → ℕ → Option ℕ
field_number m c port field = number_of m (record { component = c.declaration.name; way = step.Field port ∷ step.Field field ∷ [] })

-- A port of the ground memory is one of the memory's.
pub record IsGroundPort (m : TypedModule) (c : Component) (memory : Memory) (element : FirType) (port : MemoryPort) (np : NetPort) : Type 0 where
  pub addr : field_number m c port.name addr_name ≡ Some np.addr
  pub en : field_number m c port.name en_name ≡ Some np.en
  pub no_mode : has_mode port.mode ≡ false → np.mode ≡ None
  pub mode : has_mode port.mode ≡ true → (x : ℕ) × (np.mode ≡ Some x) × (field_number m c port.name wmode_name ≡ Some x)
  pub no_write : may_write port.mode ≡ false → np.write ≡ None
  pub write : may_write port.mode ≡ true → (w : NetWrite) × (np.write ≡ Some w) × AreOfField m c port.name (written_field port.mode) element w.leaves
      × AreOfField m c port.name (mask_field port.mode) element w.masks
  pub no_read : may_read port.mode ≡ false → np.read ≡ None
  pub read : may_read port.mode ≡ true → (r : NetRead) × (np.read ≡ Some r) × AreOfField m c port.name (read_field port.mode) element r.leaves
      × (r.captured ≡ not (read_latency_of memory == 0)) × (r.after ≡ is_new (under_of memory))

-- A memory of the ground module is one of the module's, whose elements have this type.
pub record IsGroundMemory (texts : Texts) (m : TypedModule) (at : ℕ) (c : Component) (memory : Memory) (g : GroundMemory) : Type 0 where
  pub name : g.name ≡ text_of texts c.declaration.name
  pub first : g.first ≡ leaves_before m at
  pub depth : g.depth ≡ depth_of memory
  pub element : FirType
  pub is_element : IsElement c memory element
  pub counted : length g.elements ≡ length (leaves element)
  pub elements : (k : ℕ) (leaf : TypeLeaf) (kept : ElementLeaf) → slice_get (leaves element) k ≡ Some leaf → slice_get g.elements k ≡ Some kept
      → (kept.kind ≡ kind_of_leaf leaf) × (kept.width ≡ width_of_leaf leaf) × (kept.path ≡ way_text texts leaf.path)
  pub all_ports : length g.ports ≡ length (memory_ports memory)
  pub ports : (q : ℕ) (port : MemoryPort) (np : NetPort) → slice_get (memory_ports memory) q ≡ Some port → slice_get g.ports q ≡ Some np
      → IsGroundPort m c memory element port np

-- An instance of the ground module is one of the module's.
pub record IsGroundInstance (texts : Texts) (circuit : Circuit) (m : TypedModule) (at : ℕ) (c : Component) (target : ℕ) (g : GroundInstance) : Type 0 where
  pub name : g.name ≡ text_of texts c.declaration.name
  pub first : g.first ≡ leaves_before m at
  pub memories : g.memories ≡ length (memory_parts (take at m.components))
  pub makes : Means circuit target g.module

-- The module

pub record IsGroundModule (texts : Texts) (circuit : Circuit) (m : TypedModule) (g : GroundModule) : Type 0 where
  pub counted : length g.leaves ≡ length (module_leaves m)
  pub ports : g.ports ≡ sum_by (λ c. if is_port c.declaration.sort then length (leaves c.typ) else 0) m.components
  pub leaves_are : (x : ℕ) (y : ModuleLeaf) (leaf : GroundLeaf) → slice_get (module_leaves m) x ≡ Some y → slice_get g.leaves x ≡ Some leaf → IsGroundLeaf texts y leaf
  -- what the statements of a leaf's block leave in it, and what they read
  pub values : (x : ℕ) (y : ModuleLeaf) (instant : Instant) → slice_get (module_leaves m) x ≡ Some y → is_set y ≡ true → HasShapes (table_of g.leaves) instant
      → option_map integer_of (drives instant x g.body) ≡ tree_drives.drives (scene_at m instant) (leaf_of y.0 y.1) y.0.declaration.block
  pub reads : (x : ℕ) (y : ModuleLeaf) → slice_get (module_leaves m) x ≡ Some y → is_set y ≡ true
      → SameReads m (tree_reads.joined (tree_loops.live (type_in m) (leaf_of y.0 y.1) y.0.declaration.block)) (joined (live x g.body))
  -- the value of a node's expression, and what it mentions
  pub nodes : (x : ℕ) (y : ModuleLeaf) (e : Expr) (k : ℕ) (instant : Instant) → slice_get (module_leaves m) x ≡ Some y → y.0.declaration.sort ≡ A_node e → is_clock y.1 ≡ false
      → slice_get (leaves y.0.typ) k ≡ Some y.1 → HasShapes (table_of g.leaves) instant
      → option_map integer_of (drives instant x g.body) ≡ slice_get (map integer_of (tree.value e (scene_at m instant))) k
  pub node_reads : (x : ℕ) (y : ModuleLeaf) (e : Expr) (k : ℕ) (mentioned : List Leaf) → slice_get (module_leaves m) x ≡ Some y → y.0.declaration.sort ≡ A_node e → is_clock y.1 ≡ false
      → slice_get (leaves y.0.typ) k ≡ Some y.1 → slice_get (tree_reads.mentions e (type_in m)) k ≡ Some mentioned → SameReads m mentioned (joined (live x g.body))
  -- sources have the kinds and widths of what they set, and conditions are UInts
  pub shaped : is_shaped (table_of g.leaves) g.body ≡ true
  -- registers, memories and instances
  pub registers : map (λ r. r.leaf) g.registers ≡ register_numbers m
  pub resets : (n : ℕ) (r : NetRegister) (y : ModuleLeaf) → slice_get g.registers n ≡ Some r → slice_get (module_leaves m) r.leaf ≡ Some y → HasReset m (table_of g.leaves) y y.0.declaration.sort r.reset
  pub all_memories : length g.memories ≡ length (memory_parts m.components)
  pub memories : (k : ℕ) (part : ℕ × Component × Memory) (memory : GroundMemory) → slice_get (memory_parts m.components) k ≡ Some part → slice_get g.memories k ≡ Some memory
      → IsGroundMemory texts m part.0 part.1 part.2 memory
  pub all_instances : length g.instances ≡ length (instance_parts m.components)
  pub instances : (i : ℕ) (part : ℕ × Component × ℕ) (gi : GroundInstance) → slice_get (instance_parts m.components) i ≡ Some part → slice_get g.instances i ≡ Some gi
      → IsGroundInstance texts circuit m part.0 part.1 part.2 gi

-- The ground statements are those of a circuit: module by module that main reaches.
pub record IsGroundOf (fitted : Fitted) (lowered : GroundCircuit) : Type 0 where
  pub main : Means fitted.checked.resolved fitted.checked.resolved.main.id lowered.main
  pub counted : length lowered.modules ≡ length fitted.checked.resolved.modules
  pub modules : (k : ℕ) (m : TypedModule) (g : GroundModule) → slice_get (modules_of fitted) k ≡ Some m → slice_get fitted.checked.scope.reached k ≡ Some true → slice_get lowered.modules k ≡ Some g
      → IsGroundModule fitted.checked.resolved.names fitted.checked.resolved m g
