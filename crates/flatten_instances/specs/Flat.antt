-- What it is to be the flat circuit of modules of drivers (FIRRTL specification 3.0, "Instances").
use Rattle.std.specs.Prelude.{◌≡◌, ℕ, ◌+◌, ◌==◌, Bool, true, false, List, [], ◌∷◌, ◌++◌, map, filter, length, slice_get, Option, Some, None}
use Rattle.std.specs.List.{list_any}
use Rattle.ground_net.specs.declared.circuit.DrivenCircuit.{DrivenCircuit}
use Rattle.ground_net.specs.declared.circuit.DrivenModule.{DrivenModule}
use Rattle.ground_net.specs.declared.circuit.FlatCircuit.{FlatCircuit}
use Rattle.ground_net.specs.declared.circuit.GroundInstance.{GroundInstance}
use Rattle.ground_net.specs.declared.circuit.GroundLeaf.{GroundLeaf}
use Rattle.ground_net.specs.declared.circuit.GroundMemory.{GroundMemory}
use Rattle.ground_net.specs.declared.circuit.GroundRole.{GroundRole}
use Rattle.ground_net.specs.declared.circuit.GroundRole.TheVariants.{Input, Plain}
use Rattle.ground_net.specs.declared.ground.Ground.{Ground}
use Rattle.ground_net.specs.declared.net.NetRegister.{NetRegister}
use Rattle.flatten_instances.specs.Instances.{module_at, prefix_of}
use Rattle.flatten_instances.specs.FlatOrder.{Spot, Item, InFlatOrder, leaf_spots, memories_from}
use Rattle.flatten_instances.specs.Numbers.{AreNumbers, driver_in, driver_with, register_with, port_with}

-- The lists are as long, and the relation holds at each place.
pub record OneByOne {A B : Type 0} (R : A → B → Type 0) (xs : List A) (ys : List B) : Type 0 where
  pub counted : length ys ≡ length xs
  pub each : (k : ℕ) (x : A) (y : B) → slice_get xs k ≡ Some x → slice_get ys k ≡ Some y → R x y

-- The leaf of a module that stands at a spot.
pub record IsLeafAt (driven : DrivenCircuit) (s : Spot) (leaf : GroundLeaf) : Type 0 where
  pub m : DrivenModule
  pub found : slice_get driven.modules s.within ≡ Some m
  pub there : slice_get m.leaves s.number ≡ Some leaf

-- Of the leaves only main's inputs stay inputs.
abbrev pub role_at : List ℕ → GroundRole → GroundRole
role_at (i ∷ path) Input = Plain
role_at _ role = role

abbrev pub is_input : GroundRole → Bool
is_input Input = true
is_input _ = false

-- A flat leaf is the module's, under the names of the instances on its path and its own.
pub record IsFlatLeaf (driven : DrivenCircuit) (s : Spot) (flat : GroundLeaf) : Type 0 where
  pub leaf : GroundLeaf
  pub is : IsLeafAt driven s leaf
  pub name : flat.name ≡ prefix_of driven s.path ++ leaf.name
  pub kind : flat.kind ≡ leaf.kind
  pub width : flat.width ≡ leaf.width
  pub place : flat.place ≡ leaf.place
  pub role : flat.role ≡ role_at s.path leaf.role

-- A leaf has the driver that its module gives it. The inputs of an instance have those that the instance's holder gives them, and main's
-- inputs have none.
pub data IsFlatDriver (driven : DrivenCircuit) (spots : List Spot) (s : Spot) : Option Ground → Type 0 where
  by_its_module : (leaf : GroundLeaf) (is : IsLeafAt driven s leaf) (numbers : List ℕ) → is_input leaf.role ≡ false → AreNumbers driven spots s.path s.within numbers
      → IsFlatDriver driven spots s (driver_with numbers (driver_in is.m s.number))
  by_its_holder : (leaf : GroundLeaf) (path numbers : List ℕ) (i n : ℕ) (holder : DrivenModule) (gi : GroundInstance) → IsLeafAt driven s leaf → is_input leaf.role ≡ true
      → s.path ≡ i ∷ path → module_at driven path ≡ Some n → slice_get driven.modules n ≡ Some holder → slice_get holder.instances i ≡ Some gi
      → AreNumbers driven spots path n numbers → IsFlatDriver driven spots s (driver_with numbers (driver_in holder (gi.first + s.number)))
  given : (leaf : GroundLeaf) → IsLeafAt driven s leaf → is_input leaf.role ≡ true → s.path ≡ [] → IsFlatDriver driven spots s None

-- whether a leaf is one of a register
abbrev pub is_of_register : Option DrivenModule → ℕ → Bool
is_of_register (Some m) y = list_any (λ r. r.leaf == y) m.registers
is_of_register None y = false

abbrev pub is_register_at : DrivenCircuit → Spot → Bool
is_register_at driven s = is_of_register (slice_get driven.modules s.within) s.number

-- A flat register is the module's with flat numbers.
pub record IsFlatRegister (driven : DrivenCircuit) (spots : List Spot) (s : Spot) (flat : NetRegister) : Type 0 where
  pub m : DrivenModule
  pub found : slice_get driven.modules s.within ≡ Some m
  pub r : ℕ
  pub register : NetRegister
  pub there : slice_get m.registers r ≡ Some register
  pub leaf : register.leaf ≡ s.number
  pub numbers : List ℕ
  pub numbered : AreNumbers driven spots s.path s.within numbers
  pub is : flat ≡ register_with numbers register

-- A flat memory is the module's with flat numbers, under the names of the instances on its path and its own. So many flat leaves stand
-- before it.
pub record IsFlatMemory (driven : DrivenCircuit) (spots : List Spot) (both : ℕ × Spot) (flat : GroundMemory) : Type 0 where
  pub m : DrivenModule
  pub found : slice_get driven.modules both.1.within ≡ Some m
  pub memory : GroundMemory
  pub there : slice_get m.memories both.1.number ≡ Some memory
  pub numbers : List ℕ
  pub numbered : AreNumbers driven spots both.1.path both.1.within numbers
  pub name : flat.name ≡ prefix_of driven both.1.path ++ memory.name
  pub first : flat.first ≡ both.0
  pub depth : flat.depth ≡ memory.depth
  pub elements : flat.elements ≡ memory.elements
  pub ports : flat.ports ≡ map (port_with numbers) memory.ports

-- The flat circuit with the leaves and memories of these items.
pub record IsFlatWith (driven : DrivenCircuit) (main : DrivenModule) (items : List Item) (flat : FlatCircuit) : Type 0 where
  pub ports : flat.ports ≡ main.ports
  pub leaves : OneByOne (IsFlatLeaf driven) (leaf_spots items) flat.leaves
  pub drivers : OneByOne (IsFlatDriver driven (leaf_spots items)) (leaf_spots items) flat.drivers
  pub registers : OneByOne (IsFlatRegister driven (leaf_spots items)) (filter (is_register_at driven) (leaf_spots items)) flat.registers
  pub memories : OneByOne (IsFlatMemory driven (leaf_spots items)) (memories_from 0 items) flat.memories

-- The flat circuit is that of modules of drivers.
pub record IsFlat (driven : DrivenCircuit) (flat : FlatCircuit) : Type 0 where
  pub main : DrivenModule
  pub found : slice_get driven.modules driven.main ≡ Some main
  pub items : List Item
  pub order : InFlatOrder driven [] driven.main main 0 0 0 items
  pub is : IsFlatWith driven main items flat
