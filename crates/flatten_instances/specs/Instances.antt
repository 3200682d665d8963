-- Modules, their instances, and the paths that lead to them (FIRRTL specification 3.0, "Instances").
use Rattle.std.specs.Prelude.{◌≡◌, ℕ, ◌+◌, ◌<◌, ◌≤◌, List, [], ◌∷◌, ◌++◌, length, slice_get, Option, Some, None, option_map, option_and_then}
use Rattle.ground_net.specs.declared.circuit.DrivenCircuit.{DrivenCircuit}
use Rattle.ground_net.specs.declared.circuit.DrivenModule.{DrivenModule}
use Rattle.ground_net.specs.declared.circuit.GroundInstance.{GroundInstance}
use Rattle.ground_net.specs.declared.circuit.GroundMemory.{GroundMemory}

-- Main reaches the module of this number along instances.
pub data Reaches (driven : DrivenCircuit) : ℕ → Type 0 where
  itself : Reaches driven driven.main
  along : {n : ℕ} (i : ℕ) (m : DrivenModule) (gi : GroundInstance) → Reaches driven n → slice_get driven.modules n ≡ Some m → slice_get m.instances i ≡ Some gi → Reaches driven gi.module

-- An instance of a module: its leaves are so many as its module's ports have, and stand behind the ports of its holder.
pub record HasPlace (driven : DrivenCircuit) (m : DrivenModule) (gi : GroundInstance) : Type 0 where
  pub child : DrivenModule
  pub there : slice_get driven.modules gi.module ≡ Some child
  pub behind : m.ports ≤ gi.first
  pub within : gi.first + child.ports ≤ length m.leaves
  pub memories : gi.memories ≤ length m.memories

-- The instances and the memories of a module stand in text order, and no memory among the leaves of an instance.
pub record IsInTurn (driven : DrivenCircuit) (m : DrivenModule) : Type 0 where
  pub ports : m.ports ≤ length m.leaves
  pub instances : (i : ℕ) (gi : GroundInstance) → slice_get m.instances i ≡ Some gi → HasPlace driven m gi
  pub next_instances : (i : ℕ) (gi next : GroundInstance) (child : DrivenModule) → slice_get m.instances i ≡ Some gi → slice_get m.instances (i + 1) ≡ Some next
      → slice_get driven.modules gi.module ≡ Some child → (gi.first + child.ports ≤ next.first) × (gi.memories ≤ next.memories)
  pub memories : (k : ℕ) (memory : GroundMemory) → slice_get m.memories k ≡ Some memory → memory.first ≤ length m.leaves
  pub next_memories : (k : ℕ) (memory next : GroundMemory) → slice_get m.memories k ≡ Some memory → slice_get m.memories (k + 1) ≡ Some next → memory.first ≤ next.first
  pub memories_before : (i k : ℕ) (gi : GroundInstance) (memory : GroundMemory) → slice_get m.instances i ≡ Some gi → slice_get m.memories k ≡ Some memory → k < gi.memories
      → memory.first ≤ gi.first
  pub memories_behind : (i k : ℕ) (gi : GroundInstance) (child : DrivenModule) (memory : GroundMemory) → slice_get m.instances i ≡ Some gi
      → slice_get driven.modules gi.module ≡ Some child → slice_get m.memories k ≡ Some memory → gi.memories ≤ k → gi.first + child.ports ≤ memory.first

-- The modules that main reaches have their instances and memories in turn, and no module stands within itself: numbers, each below
-- the number of modules, fall along the instances.
pub record HasInstances (driven : DrivenCircuit) : Type 0 where
  pub main : DrivenModule
  pub found : slice_get driven.modules driven.main ≡ Some main
  pub rank : ℕ → ℕ
  pub ranked : (n : ℕ) → Reaches driven n → rank n < length driven.modules
  pub falls : (n i : ℕ) (m : DrivenModule) (gi : GroundInstance) → Reaches driven n → slice_get driven.modules n ≡ Some m → slice_get m.instances i ≡ Some gi → rank gi.module < rank n
  pub in_turn : (n : ℕ) (m : DrivenModule) → Reaches driven n → slice_get driven.modules n ≡ Some m → IsInTurn driven m

-- Paths

-- An instance by its number in its holder, where the holder is there.
abbrev pub instance_in : DrivenCircuit → Option ℕ → ℕ → Option GroundInstance
instance_in driven holder i = option_and_then (λ n. option_and_then (λ m. slice_get m.instances i) (slice_get driven.modules n)) holder

-- The number of the module to which a path leads from main. A path has the numbers of its instances, each in the module that holds it,
-- the innermost first.
abbrev pub module_at : DrivenCircuit → List ℕ → Option ℕ
module_at driven [] = Some driven.main
module_at driven (i ∷ path) = option_map (λ gi. gi.module) (instance_in driven (module_at driven path) i)

-- the name of an instance, with a dot behind it
abbrev pub dotted : Option GroundInstance → List ℕ
dotted (Some gi) = gi.name ++ 46 ∷ []
dotted None = []

-- The names of the instances on a path, from main on, each with a dot behind it.
abbrev pub prefix_of : DrivenCircuit → List ℕ → List ℕ
prefix_of driven [] = []
prefix_of driven (i ∷ path) = prefix_of driven path ++ dotted (instance_in driven (module_at driven path) i)
