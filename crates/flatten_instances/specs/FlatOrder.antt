-- The flat order of a run (FIRRTL specification 3.0, "Instances"; the order is our own): for a module, in text order, its own leaves and its
-- memories, and for each instance the instance's own list.
use Rattle.std.specs.Prelude.{◌≡◌, ℕ, ◌+◌, ◌==◌, ◌&&◌, List, [], ◌∷◌, ◌++◌, filter_map, slice_get, Option, Some, None, option_and_then, if◌then◌else◌}
use Rattle.ground_net.specs.declared.circuit.DrivenCircuit.{DrivenCircuit}
use Rattle.ground_net.specs.declared.circuit.DrivenModule.{DrivenModule}
use Rattle.ground_net.specs.declared.circuit.GroundInstance.{GroundInstance}
use Rattle.ground_net.specs.declared.circuit.GroundLeaf.{GroundLeaf}
use Rattle.ground_net.specs.declared.circuit.GroundMemory.{GroundMemory}

-- A leaf or a memory of the module at a path: the path, the number of the module, and the number that it has in the module.
pub record Spot : Type 0 where
  pub path : List ℕ
  pub within : ℕ
  pub number : ℕ

abbrev pub spot : List ℕ → ℕ → ℕ → Spot
spot path n number = record { path = path; within = n; number = number }

pub data Item : Type 0 where
  A_leaf : Spot → Item
  A_memory : Spot → Item

-- The instance of number i, where it stands next behind y leaves and k memories of the module.
abbrev pub instance_here : DrivenModule → ℕ → ℕ → ℕ → Option GroundInstance
instance_here m y k i = option_and_then (λ gi. if (gi.first == y) && (gi.memories == k) then Some gi else None) (slice_get m.instances i)

-- The memory of number k, where it stands next behind y leaves.
abbrev pub memory_here : DrivenModule → ℕ → ℕ → Option GroundMemory
memory_here m y k = option_and_then (λ memory. if memory.first == y then Some memory else None) (slice_get m.memories k)

-- The items behind the first y leaves, k memories and i instances of the module of a number, which stands at a path.
pub data InFlatOrder (driven : DrivenCircuit) : List ℕ → ℕ → DrivenModule → ℕ → ℕ → ℕ → List Item → Type 0 where
  no_more : {path : List ℕ} {n y k i : ℕ} {m : DrivenModule} → slice_get m.leaves y ≡ None → slice_get m.memories k ≡ None → slice_get m.instances i ≡ None
      → InFlatOrder driven path n m y k i []
  an_instance : {path : List ℕ} {n y k i : ℕ} {m : DrivenModule} {own rest : List Item} (gi : GroundInstance) (child : DrivenModule)
      → instance_here m y k i ≡ Some gi → slice_get driven.modules gi.module ≡ Some child → InFlatOrder driven (i ∷ path) gi.module child 0 0 0 own
      → InFlatOrder driven path n m (y + child.ports) k (i + 1) rest → InFlatOrder driven path n m y k i (own ++ rest)
  a_memory : {path : List ℕ} {n y k i : ℕ} {m : DrivenModule} {rest : List Item} (memory : GroundMemory)
      → instance_here m y k i ≡ None → memory_here m y k ≡ Some memory → InFlatOrder driven path n m y (k + 1) i rest
      → InFlatOrder driven path n m y k i (A_memory (spot path n k) ∷ rest)
  a_leaf : {path : List ℕ} {n y k i : ℕ} {m : DrivenModule} {rest : List Item} (leaf : GroundLeaf)
      → instance_here m y k i ≡ None → memory_here m y k ≡ None → slice_get m.leaves y ≡ Some leaf → InFlatOrder driven path n m (y + 1) k i rest
      → InFlatOrder driven path n m y k i (A_leaf (spot path n y) ∷ rest)

-- the leaves among the items
abbrev pub leaf_in : Item → Option Spot
leaf_in (A_leaf s) = Some s
leaf_in (A_memory s) = None

abbrev pub leaf_spots : List Item → List Spot
leaf_spots items = filter_map leaf_in items

-- the memories among items that stand behind so many leaves, each with the number of leaves before it
abbrev pub memories_from : ℕ → List Item → List (ℕ × Spot)
memories_from before [] = []
memories_from before (A_leaf s ∷ items) = memories_from (before + 1) items
memories_from before (A_memory s ∷ items) = (before, s) ∷ memories_from before items
