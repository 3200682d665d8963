-- What a circuit keeps stands apart.
use Rattle.std.specs.Prelude.{◌≡◌, ℕ, List, [], slice_get, Some}
use Rattle.fir_types.specs.declared.fir_type.FirType.{FirType}
use Rattle.fir_types.specs.declared.leaf.TypeLeaf.{TypeLeaf}
use Rattle.fir_types.specs.declared.memory.Memory.{Memory}
use Rattle.fir_types.specs.Leaves.{leaves}
use Rattle.fir_types.specs.Memories.{element_of}
use Rattle.fir_meaning.specs.Components.{Design, TypedModule, Component, A_memory, module_at, component_named}
use Rattle.fir_meaning.specs.Elements.{IsElement}
use Rattle.fir_meaning.specs.MemoryPorts.{memory_ports}

-- No two components of a module have one name, and no two leaves of a memory's elements stand at one way. So it is in an accepted circuit.
pub record KeepsApart (design : Design) : Type 0 where
  pub components : (path : List ℕ) (m : TypedModule) (j k : ℕ) (c d : Component) → module_at design path ≡ Some m → slice_get m.components j ≡ Some c → slice_get m.components k ≡ Some d
      → c.declaration.name ≡ d.declaration.name → j ≡ k
  pub elements : (path : List ℕ) (m : TypedModule) (c : Component) (memory : Memory) (typ : FirType) (j k : ℕ) (a b : TypeLeaf) → module_at design path ≡ Some m → component_named m c.declaration.name ≡ Some c
      → c.declaration.sort ≡ A_memory memory → IsElement c memory typ → slice_get (leaves typ) j ≡ Some a → slice_get (leaves typ) k ≡ Some b → a.path ≡ b.path → j ≡ k

-- So far as a memory has no ports, which would show the leaves of its elements: no two of them stand at one way.
abbrev pub StoresApart : Design → Type 0
StoresApart design = (path : List ℕ) (m : TypedModule) (c : Component) (memory : Memory) (j k : ℕ) (a b : TypeLeaf) → module_at design path ≡ Some m → component_named m c.declaration.name ≡ Some c
    → c.declaration.sort ≡ A_memory memory → memory_ports memory ≡ [] → slice_get (leaves (element_of memory)) j ≡ Some a → slice_get (leaves (element_of memory)) k ≡ Some b → a.path ≡ b.path → j ≡ k
