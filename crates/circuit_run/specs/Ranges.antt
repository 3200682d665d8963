-- States and inputs whose integers are in the ranges of the leaves that have them.
use Rattle.std.specs.Prelude.{◌≡◌, ◌≢◌, ℕ, true, false, List, [], ◌∷◌, Contains, ℤ, Some}
use Rattle.bit_words.specs.Values.{InRange}
use Rattle.fir_types.specs.declared.fir_type.FirType.{FirType}
use Rattle.fir_types.specs.declared.leaf.TypeLeaf.{TypeLeaf}
use Rattle.fir_types.specs.declared.leaf.PathStep.{PathStep}
use Rattle.fir_types.specs.declared.leaf.PathStep.TheVariants as step
use Rattle.fir_types.specs.declared.memory.Memory.{Memory}
use Rattle.fir_types.specs.Leaves.{leaves}
use Rattle.fir_types.specs.Memories.{read_latency_of}
use Rattle.fir_meaning.specs.Components.{Design, TypedModule, Component, A_memory, flow_of, is_clock, kind_of_leaf, width_of_leaf, module_at, component_named}
use Rattle.fir_meaning.specs.Elements.{IsElement}
use Rattle.fir_meaning.specs.States.{State, Inputs, Stands, is_register, is_port, is_source}

-- the integer is in the range of a leaf
abbrev pub FitsLeaf : TypeLeaf → ℤ → Type 0
FitsLeaf leaf n = InRange (kind_of_leaf leaf) (width_of_leaf leaf) n

-- What registers, memories and captured reads hold is in range.
pub record IsInRange (design : Design) (s : State) : Type 0 where
  pub registers : (path : List ℕ) (m : TypedModule) (c : Component) (leaf : TypeLeaf) → Stands design path m c leaf → is_register c.declaration.sort ≡ true
      → FitsLeaf leaf (s.registers path c.declaration.name leaf.path)
  pub contents : (path : List ℕ) (m : TypedModule) (c : Component) (memory : Memory) (typ : FirType) (leaf : TypeLeaf) (element : ℕ) → module_at design path ≡ Some m → component_named m c.declaration.name ≡ Some c
      → c.declaration.sort ≡ A_memory memory → IsElement c memory typ → Contains (leaves typ) leaf → FitsLeaf leaf (s.contents path c.declaration.name element leaf.path)
  pub captured : (path : List ℕ) (m : TypedModule) (c : Component) (leaf : TypeLeaf) (memory : Memory) (port field : ℕ) (way : List PathStep) → Stands design path m c leaf → c.declaration.sort ≡ A_memory memory
      → read_latency_of memory ≢ 0 → leaf.flip ≡ false → leaf.path ≡ step.Field port ∷ step.Field field ∷ way → FitsLeaf leaf (s.captured path c.declaration.name port way)

-- What main's inputs are given is in range.
pub record AreInRange (design : Design) (given : Inputs) : Type 0 where
  pub inputs : (m : TypedModule) (c : Component) (leaf : TypeLeaf) → Stands design [] m c leaf → is_port c.declaration.sort ≡ true → is_source (flow_of c.declaration.sort leaf.flip) ≡ true → is_clock leaf ≡ false
      → FitsLeaf leaf (given c.declaration.name leaf.path)
