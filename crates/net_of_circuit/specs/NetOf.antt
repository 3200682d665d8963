-- What it is to be the net of a circuit.
use Rattle.std.specs.Prelude.{◌≡◌, ℕ, ◌==◌, ◌&&◌, not, Bool, true, false, List, [], ◌∷◌, ◌++◌, map, filter, flat_map, codes, length, take, sum_by, slice_get, Contains, ℤ, Option, Some, None, if◌then◌else◌}
use Rattle.bit_words.specs.Values.{integer_of}
use Rattle.fir_types.specs.declared.fir_type.FirType.{FirType}
use Rattle.fir_types.specs.declared.leaf.TypeLeaf.{TypeLeaf}
use Rattle.fir_types.specs.declared.leaf.PathStep.{PathStep}
use Rattle.fir_types.specs.declared.leaf.PathStep.TheVariants as step
use Rattle.fir_types.specs.declared.memory.Memory.{Memory}
use Rattle.fir_types.specs.declared.memory.PortMode.{PortMode}
use Rattle.fir_types.specs.declared.memory.PortMode.TheVariants as mode
use Rattle.fir_types.specs.declared.memory.Under.{Under}
use Rattle.fir_types.specs.declared.memory.Under.TheVariants as under
use Rattle.fir_types.specs.Leaves.{leaves}
use Rattle.fir_types.specs.Memories.{depth_of, read_latency_of, under_of}
use Rattle.fir_types.specs.Bundles.{addr_name, en_name, data_name, rdata_name, wmode_name}
use Rattle.fir_tree.specs.declared.expr.Expr.{Expr}
use Rattle.fir_tree.specs.LeafNames.{Texts, text_of, way_text, leaf_text}
use Rattle.fir_meaning.specs.Components.{Design, TypedModule, Component, FlatLeaf, Sort, A_memory, A_node, is_clock, kind_of_leaf, width_of_leaf, flow_of, module_named, flat}
use Rattle.fir_meaning.specs.Values.{scene_of, value}
use Rattle.fir_meaning.specs.Values as tree
use Rattle.fir_meaning.specs.Drives.{drives}
use Rattle.fir_meaning.specs.MemoryPorts.{MemoryPort, memory_ports, read_by, written_field, mask_field}
use Rattle.fir_meaning.specs.Elements.{IsElement}
use Rattle.fir_meaning.specs.States.{State, Stands, is_register, is_port, is_source, is_driven, leaf_of}
use Rattle.fir_meaning.specs.States as tree_states
use Rattle.fir_meaning.specs.Loops.{ReadsLeaf, TakesFrom}
use Rattle.ground_net.specs.declared.ground.Ground.{Ground}
use Rattle.ground_net.specs.declared.net.Leaf.{Leaf}
use Rattle.ground_net.specs.declared.net.Role.{Role}
use Rattle.ground_net.specs.declared.net.Role.TheVariants as role
use Rattle.ground_net.specs.declared.net.Net.{Net}
use Rattle.ground_net.specs.declared.net.NetRegister.{NetRegister}
use Rattle.ground_net.specs.declared.net.NetMemory.{NetMemory}
use Rattle.ground_net.specs.declared.net.ElementLeaf.{ElementLeaf}
use Rattle.ground_net.specs.declared.net.NetPort.{NetPort}
use Rattle.ground_net.specs.declared.net.NetWrite.{NetWrite}
use Rattle.ground_net.specs.declared.net.NetRead.{NetRead}
use Rattle.ground_net.specs.Grounds.{Instant}
use Rattle.ground_net.specs.Grounds as net_values
use Rattle.ground_net.specs.Reads.{Reads, driver_of}
use Rattle.ground_net.specs.Cones.{register_needs}
use Rattle.ground_net.specs.Shapes.{HasShapes}
use Rattle.ground_net.specs.Cycles.{NetState, instant_of, integer_at}
use Rattle.ground_net.specs.Cycles as cycle
use Rattle.ground_net.specs.Nets.{IsNet, IsWithin, HasRole, table_of}
use Rattle.ground_net.specs.Words.{SaysItsWords}
use Rattle.net_of_circuit.specs.FlatOrder.{Placed, InFlatOrder, Standing, all_leaves, all_memories, flat_of, number_in}

-- Roles

-- what a leaf is in a cycle
pub data Part : Type 0 where
  Given : Part
  Without_value : Part
  Held : Part
  Kept : Part
  Driven : Part

-- the part of each role
abbrev pub part_of_role : Role → Part
part_of_role (role.Input n) = Given
part_of_role role.Clock = Without_value
part_of_role role.Assigned = Driven
part_of_role (role.Register n) = Held
part_of_role (role.Captured n) = Kept

-- a leaf of a port of main that is only read
abbrev pub is_input_of_main : List ℕ → Component → TypeLeaf → Bool
is_input_of_main [] c leaf = is_port c.declaration.sort && is_source (flow_of c.declaration.sort leaf.flip)
is_input_of_main (i ∷ path) c leaf = false

-- data that a memory's port reads a cycle late
abbrev pub is_late_read : Sort → TypeLeaf → Bool
is_late_read (A_memory memory) leaf = not (read_latency_of memory == 0) && not leaf.flip
is_late_read _ leaf = false

-- What a leaf of the circuit is in a cycle.
abbrev pub part_of : Standing → Part
part_of x =
    if is_clock x.1 then Without_value
    else if is_register x.0.c.declaration.sort then Held
    else if is_input_of_main x.0.path x.0.c x.1 then Given
    else if is_late_read x.0.c.declaration.sort x.1 then Kept else Driven

-- a leaf of a port of main
abbrev pub is_of_port : List ℕ → Component → Bool
is_of_port [] c = is_port c.declaration.sort
is_of_port (i ∷ path) c = false

abbrev pub is_of_main : Standing → Bool
is_of_main x = is_of_port x.0.path x.0.c

-- Values

-- The integers that an instant shows of the circuit's leaves, and 0 where there is no such leaf.
abbrev pub valuation_of : List Standing → Instant → tree.Valuation
valuation_of all instant path c way = integer_at instant (number_in all (record { path = path; component = c; way = way }))

-- A state of the circuit and one of the net are the same, leaf by leaf and element by element, where the elements of the memories have
-- these types.
pub record MatchingState (all : List Standing) (memories : List (Placed × Memory)) (elements : List FirType) (net : Net) (s : State) (t : NetState) : Type 0 where
  pub registers : (x n : ℕ) (y : Standing) → slice_get all x ≡ Some y → HasRole net x (role.Register n) → s.registers y.0.path y.0.c.declaration.name y.1.path ≡ t.registers n
  pub contents : (m element k : ℕ) (p : Placed) (memory : Memory) (typ : FirType) (leaf : TypeLeaf) → slice_get memories m ≡ Some (p, memory)
      → slice_get elements m ≡ Some typ → slice_get (leaves typ) k ≡ Some leaf
      → s.contents p.path p.c.declaration.name element leaf.path ≡ t.contents m element k
  pub captured : (x n : ℕ) (y : Standing) (port field : ℕ) (way : List PathStep) → slice_get all x ≡ Some y → HasRole net x (role.Captured n)
      → y.1.path ≡ step.Field port ∷ step.Field field ∷ way → s.captured y.0.path y.0.c.declaration.name port way ≡ t.captured n

-- The integers that are given in a cycle of the circuit and of the net are the same, input by input.
pub record MatchingInputs (all : List Standing) (net : Net) (given : tree_states.Inputs) (numbered : cycle.Inputs) : Type 0 where
  pub inputs : (x n : ℕ) (y : Standing) → slice_get all x ≡ Some y → HasRole net x (role.Input n) → given y.0.c.declaration.name y.1.path ≡ numbered n

-- What is seen of the net in a cycle that begins with a state: the states match, and all is in range.
pub record IsSeen (placed : List Placed) (elements : List FirType) (net : Net) (s : State) (t : NetState) (rho : cycle.Valuation) : Type 0 where
  pub states : MatchingState (all_leaves placed) (all_memories placed) elements net s t
  pub within : IsWithin net t
  pub shapes : HasShapes (table_of net) (instant_of net t rho)

-- what the circuit's leaves have where the net's have these values
abbrev pub seen_valuation : List Placed → Net → NetState → cycle.Valuation → tree.Valuation
seen_valuation placed net t rho = valuation_of (all_leaves placed) (instant_of net t rho)

-- Names

-- the name of a leaf of the run: the instances' names and its own, joined by dots
abbrev pub path_text : Texts → List ℕ → List ℕ
path_text texts path = flat_map (λ i. text_of texts i ++ codes ".") path

abbrev pub flat_text : Texts → FlatLeaf → List ℕ
flat_text texts x = path_text texts x.path ++ leaf_text texts x.component x.way

-- Memories

-- The number is that of the memory's leaf at this way.
pub record Names (all : List Standing) (p : Placed) (way : List PathStep) (x : ℕ) : Type 0 where
  pub leaf : TypeLeaf
  pub there : slice_get all x ≡ Some (p, leaf)
  pub is : leaf.path ≡ way

-- The numbers are those of the leaves of a port's field, leaf by leaf of an element.
pub record NameAll (all : List Standing) (p : Placed) (port field : ℕ) (element : FirType) (numbers : List ℕ) : Type 0 where
  pub counted : length numbers ≡ length (leaves element)
  pub each : (k x : ℕ) (leaf : TypeLeaf) → slice_get numbers k ≡ Some x → slice_get (leaves element) k ≡ Some leaf → Names all p (step.Field port ∷ step.Field field ∷ leaf.path) x

-- whether a port writes, reads, and has a mode
abbrev pub may_write : PortMode → Bool
may_write mode.Reader = false
may_write _ = true

abbrev pub may_read : PortMode → Bool
may_read mode.Writer = false
may_read _ = true

abbrev pub has_mode : PortMode → Bool
has_mode mode.ReadWriter = true
has_mode _ = false

-- the field of what a port reads
abbrev pub read_field : PortMode → ℕ
read_field mode.ReadWriter = rdata_name
read_field _ = data_name

abbrev pub is_new : Under → Bool
is_new under.New = true
is_new _ = false

-- A port of the net's memory is one of the circuit's.
pub record IsPortOf (all : List Standing) (p : Placed) (memory : Memory) (element : FirType) (port : MemoryPort) (np : NetPort) : Type 0 where
  pub addr : Names all p (step.Field port.name ∷ step.Field addr_name ∷ []) np.addr
  pub en : Names all p (step.Field port.name ∷ step.Field en_name ∷ []) np.en
  pub no_mode : has_mode port.mode ≡ false → np.mode ≡ None
  pub mode : has_mode port.mode ≡ true → (x : ℕ) × (np.mode ≡ Some x) × Names all p (step.Field port.name ∷ step.Field wmode_name ∷ []) x
  pub no_write : may_write port.mode ≡ false → np.write ≡ None
  pub write : may_write port.mode ≡ true → (w : NetWrite) × (np.write ≡ Some w) × NameAll all p port.name (written_field port.mode) element w.leaves
      × NameAll all p port.name (mask_field port.mode) element w.masks
  pub no_read : may_read port.mode ≡ false → np.read ≡ None
  pub read : may_read port.mode ≡ true → (r : NetRead) × (np.read ≡ Some r) × NameAll all p port.name (read_field port.mode) element r.leaves
      × (r.captured ≡ not (read_latency_of memory == 0)) × (r.after ≡ is_new (under_of memory))

-- A memory of the net is one of the circuit's: its name and depth, the leaves of its elements and its ports, and how many leaves stand before it.
pub record IsMemoryOf (texts : Texts) (placed : List Placed) (p : Placed) (memory : Memory) (element : FirType) (nm : NetMemory) : Type 0 where
  pub name : nm.name ≡ path_text texts p.path ++ text_of texts p.c.declaration.name
  pub at : ℕ
  pub stands : slice_get placed at ≡ Some p
  pub before : nm.before ≡ sum_by (λ q. length (leaves q.c.typ)) (take at placed)
  pub depth : nm.depth ≡ depth_of memory
  pub is_element : IsElement p.c memory element
  pub counted : length nm.elements ≡ length (leaves element)
  pub elements : (k : ℕ) (leaf : TypeLeaf) (kept : ElementLeaf) → slice_get (leaves element) k ≡ Some leaf → slice_get nm.elements k ≡ Some kept
      → (kept.kind ≡ kind_of_leaf leaf) × (kept.width ≡ width_of_leaf leaf) × (kept.path ≡ way_text texts leaf.path)
  pub all_ports : length nm.ports ≡ length (memory_ports memory)
  pub ports : (q : ℕ) (port : MemoryPort) (np : NetPort) → slice_get (memory_ports memory) q ≡ Some port → slice_get nm.ports q ≡ Some np
      → IsPortOf (all_leaves placed) p memory element port np

-- The net of a circuit

-- A leaf of the net is a leaf of the circuit: its kind, width and name, the place of its component's name, and what it is in a cycle.
pub record IsLeafOfNet (texts : Texts) (y : Standing) (leaf : Leaf) : Type 0 where
  pub kind : leaf.kind ≡ kind_of_leaf y.1
  pub width : leaf.width ≡ width_of_leaf y.1
  pub name : leaf.name ≡ flat_text texts (flat_of y)
  pub place : leaf.place ≡ y.0.c.declaration.place
  pub part : part_of_role leaf.role ≡ part_of y

-- The net is that of the circuit whose components are these, in flat order, and the elements of whose memories have these types. Of each leaf and register it says the same at every instant
-- that is in range, and its memories are the circuit's.
pub record IsNetWith (texts : Texts) (design : Design) (placed : List Placed) (elements : List FirType) (net : Net) : Type 0 where
  pub counted : length net.leaves ≡ length (all_leaves placed)
  pub ports : net.ports ≡ length (filter is_of_main (all_leaves placed))
  pub leaves_are : (x : ℕ) (y : Standing) (leaf : Leaf) → slice_get (all_leaves placed) x ≡ Some y → slice_get net.leaves x ≡ Some leaf → IsLeafOfNet texts y leaf
  -- what statements leave in a leaf; the input of an instance is driven where the instance stands
  pub driven : (path : List ℕ) (m : TypedModule) (c : Component) (leaf : TypeLeaf) (x : ℕ) (y : Standing) (driver : Ground) (s : State) (t : NetState) (rho : cycle.Valuation)
      → Stands design path m c leaf → is_driven c leaf ≡ true → slice_get (all_leaves placed) x ≡ Some y → flat m path (leaf_of c leaf) ≡ flat_of y
      → driver_of net x ≡ Some driver → IsSeen placed elements net s t rho
      → drives (scene_of m path (seen_valuation placed net t rho)) (leaf_of c leaf) c.declaration.block ≡ Some (integer_of (net_values.value driver (instant_of net t rho)))
  -- the value of a node's expression
  pub nodes : (x : ℕ) (y : Standing) (e : Expr) (k : ℕ) (driver : Ground) (s : State) (t : NetState) (rho : cycle.Valuation)
      → slice_get (all_leaves placed) x ≡ Some y → y.0.c.declaration.sort ≡ A_node e → is_clock y.1 ≡ false → slice_get (leaves y.0.c.typ) k ≡ Some y.1
      → driver_of net x ≡ Some driver → IsSeen placed elements net s t rho
      → slice_get (map integer_of (value e (scene_of y.0.m y.0.path (seen_valuation placed net t rho)))) k ≡ Some (integer_of (net_values.value driver (instant_of net t rho)))
  -- a read of latency 0
  pub port_reads : (x : ℕ) (y : Standing) (memory : Memory) (port field : ℕ) (way : List PathStep) (driver : Ground) (s : State) (t : NetState) (rho : cycle.Valuation)
      → slice_get (all_leaves placed) x ≡ Some y → y.0.c.declaration.sort ≡ A_memory memory → read_latency_of memory ≡ 0 → y.1.flip ≡ false
      → y.1.path ≡ step.Field port ∷ step.Field field ∷ way → driver_of net x ≡ Some driver → IsSeen placed elements net s t rho
      → read_by memory ((scene_of y.0.m y.0.path (seen_valuation placed net t rho)).integers y.0.c.declaration.name) (s.contents y.0.path y.0.c.declaration.name) port way
      ≡ integer_of (net_values.value driver (instant_of net t rho))
  -- what a leaf reads, both ways
  pub reads : (x z : ℕ) (y w : Standing) → slice_get (all_leaves placed) x ≡ Some y → slice_get (all_leaves placed) z ≡ Some w → Reads net x z → ReadsLeaf design (flat_of y) (flat_of w)
  pub all_reads : (x : ℕ) (y : Standing) (f : FlatLeaf) → slice_get (all_leaves placed) x ≡ Some y → ReadsLeaf design (flat_of y) f
      → (z : ℕ) × (w : Standing) × (slice_get (all_leaves placed) z ≡ Some w) × (flat_of w ≡ f) × Reads net x z
  -- what a register holds next where it shows what it holds, and which assignments it takes, both ways
  pub registers : (n : ℕ) (register : NetRegister) (y : Standing) (s : State) (t : NetState) (rho : cycle.Valuation) → slice_get net.registers n ≡ Some register
      → slice_get (all_leaves placed) register.leaf ≡ Some y → IsSeen placed elements net s t rho
      → tree_states.next_of_register (scene_of y.0.m y.0.path (seen_valuation placed net t rho)) y.0.c y.0.c.declaration.sort y.1.path (integer_of (rho register.leaf))
      ≡ cycle.next_of_register net (instant_of net t rho) (Some register) (integer_of (rho register.leaf))
  pub takes : (n z : ℕ) (register : NetRegister) (y w : Standing) → slice_get net.registers n ≡ Some register → slice_get (all_leaves placed) register.leaf ≡ Some y
      → slice_get (all_leaves placed) z ≡ Some w → part_of w ≡ Driven → Contains (register_needs net register) z → TakesFrom design (flat_of y) (flat_of w)
  pub all_takes : (n : ℕ) (register : NetRegister) (y : Standing) (f : FlatLeaf) → slice_get net.registers n ≡ Some register → slice_get (all_leaves placed) register.leaf ≡ Some y
      → TakesFrom design (flat_of y) f → (z : ℕ) × (w : Standing) × (slice_get (all_leaves placed) z ≡ Some w) × (flat_of w ≡ f) × Contains (register_needs net register) z
  -- the memories, and where their words begin
  pub all_memories_there : length net.memories ≡ length (all_memories placed)
  pub all_elements_there : length elements ≡ length (all_memories placed)
  pub memories : (m : ℕ) (p : Placed) (memory : Memory) (element : FirType) (nm : NetMemory) → slice_get (all_memories placed) m ≡ Some (p, memory)
      → slice_get elements m ≡ Some element → slice_get net.memories m ≡ Some nm → IsMemoryOf texts placed p memory element nm
  pub words : SaysItsWords net

-- The net is that of a circuit whose names have these texts.
pub record IsNetOf (texts : Texts) (design : Design) (net : Net) : Type 0 where
  pub well_formed : IsNet net
  pub main : TypedModule
  pub found : module_named design design.main ≡ Some main
  pub placed : List Placed
  pub order : InFlatOrder design [] main main.components placed
  pub elements : List FirType
  pub is : IsNetWith texts design placed elements net
