-- The leaves of a module numbered in text order, and what an instant of numbered leaves shows of the module.
use Rattle.std.specs.Prelude.{◌≡◌, ℕ, ◌&&◌, not, Bool, List, map, filter_map, flat_map, take, length, position, slice_get, sum_by, Contains, Option, Some, None, option_map, if◌then◌else◌}
use Rattle.fir_types.specs.declared.leaf.TypeLeaf.{TypeLeaf}
use Rattle.fir_types.specs.declared.memory.Memory.{Memory}
use Rattle.fir_types.specs.Leaves.{leaves}
use Rattle.fir_meaning.specs.Components.{TypedModule, Component, Leaf, Sort, A_memory, is_clock, flow_of, type_in, target_in}
use Rattle.fir_meaning.specs.Values.{Scene, scene_with}
use Rattle.fir_meaning.specs.Drives.{same_leaf}
use Rattle.fir_meaning.specs.States.{is_port, is_register, is_source, leaf_of}
use Rattle.ground_net.specs.declared.circuit.GroundLeaf.{GroundLeaf}
use Rattle.ground_net.specs.declared.circuit.GroundRole.{GroundRole}
use Rattle.ground_net.specs.declared.circuit.GroundRole.TheVariants.{Input, Clock, Register, Plain}
use Rattle.ground_net.specs.Grounds.{Instant}
use Rattle.ground_net.specs.Cones.{numbered}
use Rattle.ground_net.specs.Shapes.{Shape, Table, shaped}
use Rattle.ground_net.specs.Cycles.{integer_at}

-- a leaf with its component
abbrev pub ModuleLeaf : Type 0
ModuleLeaf = Component × TypeLeaf

abbrev pub leaves_of : Component → List ModuleLeaf
leaves_of c = map (λ leaf. (c, leaf)) (leaves c.typ)

-- The leaves of a module: those of its components in text order, ports first, an instance with the leaves of its bundle.
abbrev pub module_leaves : TypedModule → List ModuleLeaf
module_leaves m = flat_map leaves_of m.components

-- The number of a leaf of the module, where it is one of them.
abbrev pub number_of : TypedModule → Leaf → Option ℕ
number_of m leaf = position (λ y. same_leaf (leaf_of y.0 y.1) leaf) (module_leaves m)

-- What an instant of numbered leaves shows of the module: 0 where there is no such leaf.
abbrev pub scene_at : TypedModule → Instant → Scene
scene_at m instant = scene_with (type_in m) (λ c way. integer_at instant (number_of m (record { component = c; way = way })))

-- What a leaf of a module is.
abbrev pub role_of : ModuleLeaf → GroundRole
role_of y =
    if is_clock y.1 then Clock
    else if is_register y.0.declaration.sort then Register
    else if is_port y.0.declaration.sort && is_source (flow_of y.0.declaration.sort y.1.flip) then Input else Plain

-- Statements may set the leaf: it is no source and no Clock.
abbrev pub is_set : ModuleLeaf → Bool
is_set y = not (is_source (flow_of y.0.declaration.sort y.1.flip)) && not (is_clock y.1)

-- the kinds and widths of numbered leaves; a module has no loads
abbrev pub ground_shape : GroundLeaf → Shape
ground_shape leaf = shaped leaf.kind leaf.width

abbrev pub table_of : List GroundLeaf → Table
table_of leaves = record { leaf = λ x. option_map ground_shape (slice_get leaves x); element = λ m k. None }

-- These are the numbers of these leaves, both ways.
pub record SameReads (m : TypedModule) (leaves : List Leaf) (numbers : List ℕ) : Type 0 where
  pub only : (x : ℕ) → Contains numbers x → (z : Leaf) × Contains leaves z × (number_of m z ≡ Some x)
  pub all : (z : Leaf) → Contains leaves z → (x : ℕ) × (number_of m z ≡ Some x) × Contains numbers x

-- How many leaves stand before the component of this place.
abbrev pub leaves_before : TypedModule → ℕ → ℕ
leaves_before m at = sum_by (λ c. length (leaves c.typ)) (take at m.components)

-- A memory of a module: the place of its component, and what its text says.
abbrev pub as_memory : ℕ → Component → Sort → Option (ℕ × Component × Memory)
as_memory at c (A_memory memory) = Some (at, c, memory)
as_memory at c _ = None

abbrev pub memory_parts : List Component → List (ℕ × Component × Memory)
memory_parts components = filter_map (λ both. as_memory both.0 both.1 both.1.declaration.sort) (numbered components)

-- An instance of a module: the place of its component, and the name of the module that it makes.
abbrev pub instance_parts : List Component → List (ℕ × Component × ℕ)
instance_parts components = filter_map (λ both. option_map (λ target. (both.0, both.1, target)) (target_in both.1.declaration.sort)) (numbered components)

-- The numbers of the registers' leaves.
abbrev pub register_numbers : TypedModule → List ℕ
register_numbers m = filter_map (λ both. if is_register both.1.0.declaration.sort then Some both.0 else None) (numbered (module_leaves m))
