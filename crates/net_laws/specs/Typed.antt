-- What the checks of types make sure of in a run, as far as values need it.
use Rattle.std.specs.Prelude.{◌≡◌, ℕ, true, false, List, ◌++◌, Some, Contains, map}
use Rattle.fir_types.specs.declared.leaf.TypeLeaf.{TypeLeaf}
use Rattle.fir_types.specs.declared.memory.Memory.{Memory}
use Rattle.fir_types.specs.Leaves.{leaves}
use Rattle.fir_tree.specs.declared.expr.Expr.{Expr}
use Rattle.prim_ops.specs.Shapes.{shape_of_value}
use Rattle.fir_meaning.specs.Components.{Design, TypedModule, Component, A_memory, A_node, is_clock, component_named, module_at, module_named}
use Rattle.fir_meaning.specs.Values.{Valuation, scene_of, value}
use Rattle.fir_meaning.specs.MemoryPorts.{MemoryPort, memory_ports, port_named}
use Rattle.fir_meaning.specs.States.{Stands, is_register, is_port}
use Rattle.fir_meaning.specs.WellTyped.{leaf_shape}

-- The ports of a module are declared before all else.
pub record HasPortsFirst (m : TypedModule) : Type 0 where
  pub ports : List Component
  pub others : List Component
  pub are : m.components ≡ ports ++ others
  pub all : (c : Component) → Contains ports c → is_port c.declaration.sort ≡ true
  pub none : (c : Component) → Contains others c → is_port c.declaration.sort ≡ false

-- Registers and memories hold no Clock, a node has the kinds and widths of its expression, and a memory's ports have different names.
pub record IsTyped (design : Design) : Type 0 where
  pub registers : (path : List ℕ) (m : TypedModule) (c : Component) (leaf : TypeLeaf) → Stands design path m c leaf → is_register c.declaration.sort ≡ true → is_clock leaf ≡ false
  pub read_data : (path : List ℕ) (m : TypedModule) (c : Component) (leaf : TypeLeaf) (memory : Memory) → Stands design path m c leaf → c.declaration.sort ≡ A_memory memory → leaf.flip ≡ false → is_clock leaf ≡ false
  pub nodes : (path : List ℕ) (m : TypedModule) (c : Component) (e : Expr) (rho : Valuation) → module_at design path ≡ Some m → component_named m c.declaration.name ≡ Some c → c.declaration.sort ≡ A_node e
      → map shape_of_value (value e (scene_of m path rho)) ≡ map leaf_shape (leaves c.typ)
  pub ports : (path : List ℕ) (m : TypedModule) (c : Component) (memory : Memory) (port : MemoryPort) → module_at design path ≡ Some m → component_named m c.declaration.name ≡ Some c → c.declaration.sort ≡ A_memory memory
      → Contains (memory_ports memory) port → port_named memory port.name ≡ Some port
  pub main : (m : TypedModule) → module_named design design.main ≡ Some m → HasPortsFirst m
