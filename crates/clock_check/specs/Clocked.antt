-- Registers and memory ports whose clock isn't main's first Clock input (FIRRTL specification 3.0, "Clock" under "Ground Types").
use Rattle.std.specs.Prelude.{◌≡◌, ℕ, List, [], ◌∷◌, slice_get, Some, Contains}
use Rattle.place_text.specs.declared.place.Place.{Place}
use Rattle.fir_types.specs.declared.memory.Memory.{Memory}
use Rattle.fir_types.specs.declared.leaf.PathStep.TheVariants as step
use Rattle.fir_types.specs.Bundles.{clk_name}
use Rattle.fir_tree.specs.declared.expr.Expr.{Expr}
use Rattle.fir_tree.specs.declared.scope.Fitted.{Fitted}
use Rattle.fir_meaning.specs.Components.{Design, TypedModule, Component, Leaf, A_memory, design_of, flat, type_in, module_at, component_named}
use Rattle.fir_meaning.specs.MemoryPorts.{MemoryPort, memory_ports}
use Rattle.fir_meaning.specs.ClockRoot.{IsRooted, named_leaves, clock_of}
use Rattle.clock_check.specs.declared.fault.ClockFault.{ClockFault}
use Rattle.clock_check.specs.declared.fault.ClockFault.TheVariants.{ClockOther}

-- The clock of a register at this path names a leaf that leads to main's first Clock input.
abbrev pub IsClocked : Design → List ℕ → TypedModule → Expr → Type 0
IsClocked design path m clock = (leaf : Leaf) × (slice_get (named_leaves (type_in m) clock) 0 ≡ Some leaf) × IsRooted design (flat m path leaf)

-- the leaf of a memory that is the clock of its port of this name
abbrev pub clock_leaf : ℕ → ℕ → Leaf
clock_leaf memory port = record { component = memory; way = step.Field port ∷ step.Field clk_name ∷ [] }

-- a component of the module at some path
pub record At (design : Design) (path : List ℕ) (m : TypedModule) (c : Component) : Type 0 where
  pub reached : module_at design path ≡ Some m
  pub declared : component_named m c.declaration.name ≡ Some c

-- The clock of a register or of a memory's port, declared at this place, is another one at some path.
pub data IsOther (design : Design) : Place → Type 0 where
  register : (path : List ℕ) (m : TypedModule) (c : Component) (clock : Expr) → At design path m c → clock_of c.declaration.sort ≡ Some clock
      → ¬ (IsClocked design path m clock) → IsOther design c.declaration.place
  port : (path : List ℕ) (m : TypedModule) (c : Component) (memory : Memory) (p : MemoryPort) → At design path m c → c.declaration.sort ≡ A_memory memory
      → Contains (memory_ports memory) p → ¬ (IsRooted design (flat m path (clock_leaf c.declaration.name p.name))) → IsOther design p.place

-- the faults of clocks
pub data IsFault (fitted : Fitted) : ClockFault → Type 0 where
  clock_other : (place : Place) → IsOther (design_of fitted) place → IsFault fitted (ClockOther place)
