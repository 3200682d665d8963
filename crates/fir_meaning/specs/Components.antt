-- The components of a circuit (FIRRTL specification 3.0, "Circuits and Modules" and "Statements"): what each module declares,
-- with its type and the block in which it stands, and the modules that instances make.
--
-- All declarations of a module have different names, wherever they stand, so a component is known by the number of its name.
-- A leaf of a module is a component and the way to one of its ground parts. Where two have one name, the first counts.
use Rattle.std.specs.Prelude.{◌≡◌, ℕ, Contains, ◌==◌, ◌++◌, drop, length, Bool, true, false, List, [], ◌∷◌, map, filter_map, flat_map, find, zip, Option, Some, None, option_and_then, if◌then◌else◌}
use Rattle.place_text.specs.declared.place.Place.{Place}
use Rattle.bit_words.specs.declared.value.Kind.{Kind}
use Rattle.bit_words.specs.declared.value.Kind.TheVariants.{Unsigned, Signed}
use Rattle.fir_types.specs.declared.fir_type.FirType.{FirType}
use Rattle.fir_types.specs.declared.fir_type.Shape.{Shape}
use Rattle.fir_types.specs.declared.fir_type.Shape.TheOpen.{Shape-F}
use Rattle.fir_types.specs.declared.fir_type.Shape.TheViews.{out-Shape}
use Rattle.fir_types.specs.declared.fir_type.Shape.TheVariants as shape
use Rattle.fir_types.specs.declared.fir_type.Field.{Field}
use Rattle.fir_types.specs.declared.leaf.TypeLeaf.{TypeLeaf}
use Rattle.fir_types.specs.declared.leaf.PathStep.{PathStep}
use Rattle.fir_types.specs.declared.leaf.PathStep.TheVariants as step
use Rattle.fir_types.specs.declared.memory.Memory.{Memory}
use Rattle.fir_types.specs.declared.port.Port.{Port}
use Rattle.fir_types.specs.declared.name.Name.{Name}
use Rattle.fir_types.specs.Leaves.{leaves}
pub use Rattle.fir_types.specs.Leaves.{is_clock, is_clock_shape}
use Rattle.fir_types.specs.Memories.{depth_of}
use Rattle.fir_types.specs.Bundles.{nowhere, instance_of, port_field}
use Rattle.fir_tree.specs.declared.circuit.Module.{Module}
use Rattle.fir_tree.specs.declared.scope.Fitted.{Fitted}
use Rattle.fir_tree.specs.declared.expr.Expr.{Expr}
use Rattle.fir_tree.specs.declared.stmt.Stmt.{Stmt, fold-Stmt}
use Rattle.fir_tree.specs.declared.stmt.Arm.{Arm}
use Rattle.fir_tree.specs.declared.stmt.Stmt.TheOpen.{Stmt-F, Arm-F}
use Rattle.fir_tree.specs.declared.stmt.Stmt.TheFolds.{map-Stmt, map-Arm}
use Rattle.fir_tree.specs.declared.stmt.Stmt.TheViews.{roll-Stmt, roll-Arm}

-- What a declaration makes.
pub data Sort : Type 0 where
  An_input : Sort
  An_output : Sort
  A_wire : Sort
  A_register : Expr → Sort  -- its clock
  A_reset_register : Expr → Expr → Expr → Sort  -- its clock, its reset, and its value after a reset
  A_memory : Memory → Sort
  An_instance : ℕ → Sort  -- of the module of this name
  A_node : Expr → Sort

-- A declaration: its name and where that stands, what it makes, the statements of its block, and those of them that stand behind it.
pub record Declaration : Type 0 where
  pub name : ℕ
  pub place : Place
  pub sort : Sort
  pub block : List Stmt
  pub behind : List Stmt

-- What a statement declares, given the statements of its block and those behind it.
abbrev pub Declares : Type 0
Declares = List Stmt → List Stmt → List Declaration

-- A statement or an arm, and what it declares.
pub record Told : Type 0 where
  pub itself : Stmt
  pub declares : Declares

pub record ToldArm : Type 0 where
  pub itself : Arm
  pub declared : List Declaration

-- the statement itself declares this one
abbrev pub one : Name → Sort → Declares
one name sort block behind = record { name = name.id; place = name.place; sort = sort; block = block; behind = behind } ∷ []

-- Each of these statements stands in the block, with the later ones behind it.
abbrev pub declared_from : List Stmt → List Told → List Declaration
declared_from block [] = []
declared_from block (s ∷ behind) = s.declares block (map (λ t. t.itself) behind) ++ declared_from block behind

-- what a block declares, in text order
abbrev pub declared_in_block : List Told → List Declaration
declared_in_block told = declared_from (map (λ t. t.itself) told) told

-- What each kind of statement declares: a `when` what its arms do in order, and then its `else`.
abbrev pub of_declaring : Stmt-F Told ToldArm → Declares
of_declaring (Stmt-F.Wire name typ) = one name A_wire
of_declaring (Stmt-F.Reg name typ clock) = one name (A_register clock)
of_declaring (Stmt-F.RegReset name typ clock reset init) = one name (A_reset_register clock reset init)
of_declaring (Stmt-F.Mem memory) = one memory.name (A_memory memory)
of_declaring (Stmt-F.Inst name target) = one name (An_instance target.id)
of_declaring (Stmt-F.Node name expr) = one name (A_node expr)
of_declaring (Stmt-F.When arms other) = λ block behind. flat_map (λ arm. arm.declared) arms ++ declared_in_block other
of_declaring _ = λ block behind. []

-- the statement together with what it declares
abbrev pub of_told : Stmt-F Told ToldArm → Told
of_told s = record { itself = roll-Stmt (map-Stmt Told ToldArm Stmt Arm (λ t. t.itself) (λ a. a.itself) s); declares = of_declaring s }

-- the arm together with what its block declares
abbrev pub of_told_arm : Arm-F Told ToldArm → ToldArm
of_told_arm a = record { itself = roll-Arm (map-Arm Told ToldArm Stmt Arm (λ t. t.itself) (λ a. a.itself) a); declared = declared_in_block a.body }

-- A statement with what it declares, the blocks in it included.
abbrev pub told : Stmt → Told
told = fold-Stmt Told ToldArm of_told of_told_arm

-- A port stands before the whole body of its module.
abbrev pub declared_by_port : List Stmt → Port → Declaration
declared_by_port body port = record { name = port.name.id; place = port.name.place; sort = if port.output then An_output else An_input; block = body; behind = body }

-- The declarations of a module in text order, ports first.
abbrev pub declarations_of : Module → List Declaration
declarations_of m = map (declared_by_port m.body) m.ports ++ declared_in_block (map told m.body)

-- A component: a declaration with its type, whose widths are known.
pub record Component : Type 0 where
  pub declaration : Declaration
  pub typ : FirType

-- A module with its components.
pub record TypedModule : Type 0 where
  pub name : ℕ
  pub components : List Component

-- The types stand in text order over all modules, one for each declaration: that of an instance or a memory is its bundle.
abbrev pub with_types : List Module → List FirType → List TypedModule
with_types [] types = []
with_types (m ∷ modules) types =
    let declared = declarations_of m in
    record { name = m.name.id; components = map (λ both. record { declaration = both.0; typ = both.1 }) (zip declared types) } ∷ with_types modules (drop (length declared) types)

-- The modules of a circuit whose widths are known.
abbrev pub modules_of : Fitted → List TypedModule
modules_of fitted = with_types fitted.checked.resolved.modules fitted.declared

-- A circuit as it runs: the name of its main module, and its modules.
pub record Design : Type 0 where
  pub main : ℕ
  pub modules : List TypedModule

-- The design of a circuit whose widths are known.
abbrev pub design_of : Fitted → Design
design_of fitted = record { main = fitted.checked.resolved.main.id; modules = modules_of fitted }

-- The first module of a name.
abbrev pub module_named : Design → ℕ → Option TypedModule
module_named design name = find (λ m. m.name == name) design.modules

-- The first component of a name.
abbrev pub component_named : TypedModule → ℕ → Option Component
component_named m name = find (λ c. c.declaration.name == name) m.components

-- the module that a component makes, where it is an instance
abbrev pub target_in : Sort → Option ℕ
target_in (An_instance target) = Some target
target_in _ = None

-- the module that the component of this name makes, where it is an instance
abbrev pub target_of : TypedModule → ℕ → Option ℕ
target_of m name = option_and_then (λ c. target_in c.declaration.sort) (component_named m name)

-- The module that stands behind these instances, the outermost first, from a module on.
abbrev pub module_within : Design → TypedModule → List ℕ → Option TypedModule
module_within design m [] = Some m
module_within design m (i ∷ path) = option_and_then (λ n. module_within design n path) (option_and_then (module_named design) (target_of m i))

-- The module at an instance path: main is at the empty one.
abbrev pub module_at : Design → List ℕ → Option TypedModule
module_at design path = option_and_then (λ m. module_within design m path) (module_named design design.main)

-- the type of a component, and an empty bundle where there is none
abbrev pub type_or_empty : Option Component → FirType
type_or_empty (Some component) = component.typ
type_or_empty None = record { place = nowhere; shape = shape.Bundle [] }

-- The type of the component of a name.
abbrev pub type_in : TypedModule → ℕ → FirType
type_in m name = type_or_empty (component_named m name)

-- a component as a port, where it is one
abbrev pub port_of : Component → Sort → Option Port
port_of c An_input = Some (record { output = false; name = record { id = c.declaration.name; place = nowhere }; typ = c.typ })
port_of c An_output = Some (record { output = true; name = record { id = c.declaration.name; place = nowhere }; typ = c.typ })
port_of c _ = None

-- The ports of a module with their types.
abbrev pub typed_ports : TypedModule → List Port
typed_ports m = filter_map (λ c. port_of c c.declaration.sort) m.components

-- The bundle of a memory's ports, where its elements have this type.
abbrev pub ports_bundle : Memory → FirType → FirType
ports_bundle memory element = record { place = nowhere; shape = shape.Bundle (filter_map (port_field element (depth_of memory)) memory.lines) }

-- In an accepted circuit each component is the one of its name, an instance has the leaves of its module's ports, inputs flipped,
-- and a memory those of its ports.
pub record HasBundles (design : Design) : Type 0 where
  pub names : (path : List ℕ) (m : TypedModule) (c : Component) → module_at design path ≡ Some m → Contains m.components c → component_named m c.declaration.name ≡ Some c
  pub instances : (path : List ℕ) (m : TypedModule) (c : Component) (target : ℕ) → module_at design path ≡ Some m → component_named m c.declaration.name ≡ Some c
      → c.declaration.sort ≡ An_instance target → (n : TypedModule) × (module_named design target ≡ Some n) × (leaves c.typ ≡ leaves (instance_of (typed_ports n)))
  pub memories : (path : List ℕ) (m : TypedModule) (c : Component) (memory : Memory) → module_at design path ≡ Some m → component_named m c.declaration.name ≡ Some c
      → c.declaration.sort ≡ A_memory memory → (element : FirType) × (leaves c.typ ≡ leaves (ports_bundle memory element))

-- How a leaf may be used: as a source, as a sink, or as both.
pub data Flow : Type 0 where
  Source : Flow
  Sink : Flow
  Duplex : Flow

-- The flow of a leaf, from what its component is and whether it is flipped (FIRRTL specification 3.0, "Flows").
abbrev pub flow_of : Sort → Bool → Flow
flow_of An_input flip = if flip then Sink else Source
flow_of An_output flip = if flip then Source else Sink
flow_of A_wire flip = Duplex
flow_of (A_register clock) flip = Duplex
flow_of (A_reset_register clock reset init) flip = Duplex
flow_of (A_memory memory) flip = if flip then Sink else Source
flow_of (An_instance target) flip = if flip then Sink else Source
flow_of (A_node expr) flip = Source

-- A ground type is read as a kind and a width. A Clock has no value, and counts as a UInt of no bits; `Reset` is `UInt<1>`. Bundles and vectors
-- are no ground types, and count as nothing.
abbrev pub kind_of_shape : Shape-F Shape Field FirType → Kind
kind_of_shape (Shape-F.Unsigned width) = Unsigned
kind_of_shape (Shape-F.Signed width) = Signed
kind_of_shape Shape-F.Clock = Unsigned
kind_of_shape Shape-F.Reset = Unsigned
kind_of_shape Shape-F.AsyncReset = Unsigned
kind_of_shape (Shape-F.Bundle fields) = Unsigned
kind_of_shape (Shape-F.Vector element length) = Unsigned

-- a width that is not known counts as none; in an accepted circuit all are known
abbrev pub width_or_none : Option ℕ → ℕ
width_or_none (Some width) = width
width_or_none None = 0

-- How many bits a ground type has.
abbrev pub width_of_shape : Shape-F Shape Field FirType → ℕ
width_of_shape (Shape-F.Unsigned width) = width_or_none width
width_of_shape (Shape-F.Signed width) = width_or_none width
width_of_shape Shape-F.Clock = 0
width_of_shape Shape-F.Reset = 1
width_of_shape Shape-F.AsyncReset = 1
width_of_shape (Shape-F.Bundle fields) = 0
width_of_shape (Shape-F.Vector element length) = 0

-- The kind of a leaf, and its width.
abbrev pub kind_of_leaf : TypeLeaf → Kind
kind_of_leaf leaf = kind_of_shape (out-Shape leaf.typ.shape)

abbrev pub width_of_leaf : TypeLeaf → ℕ
width_of_leaf leaf = width_of_shape (out-Shape leaf.typ.shape)

-- A leaf of a module.
pub record Leaf : Type 0 where
  pub component : ℕ
  pub way : List PathStep

-- A leaf of the run: the instances that lead to its module, the outermost first, and the leaf there.
pub record FlatLeaf : Type 0 where
  pub path : List ℕ
  pub component : ℕ
  pub way : List PathStep

-- A leaf `x` of an instance's port is that leaf of the port in the module of the instance.
abbrev pub flat_through : List ℕ → ℕ → Option ℕ → List PathStep → FlatLeaf
flat_through path i (Some target) (step.Field x ∷ way) = record { path = path ++ i ∷ []; component = x; way = way }
flat_through path i _ way = record { path = path; component = i; way = way }

-- The leaf of the run that a leaf of the module at a path is.
abbrev pub flat : TypedModule → List ℕ → Leaf → FlatLeaf
flat m path leaf = flat_through path leaf.component (target_of m leaf.component) leaf.way
