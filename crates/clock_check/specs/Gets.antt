-- Which leaf of a module a Clock leaf of it has its value from: the links of a chain of clocks, module by module.
use Rattle.std.specs.Prelude.{◌≡◌, ℕ, List, true, false, slice_get, Some, Contains}
use Rattle.fir_types.specs.declared.leaf.TypeLeaf.{TypeLeaf}
use Rattle.fir_types.specs.Leaves.{leaves}
use Rattle.fir_tree.specs.declared.expr.Expr.{Expr}
use Rattle.fir_meaning.specs.Components.{Design, TypedModule, Component, Leaf, FlatLeaf, A_node, flow_of, flat, is_clock, type_in, module_at, component_named}
use Rattle.fir_meaning.specs.States.{leaf_of, is_source}
use Rattle.fir_meaning.specs.ClockRoot.{From, driver_in, named_leaves}

pub data Gets (m : TypedModule) : Leaf → Leaf → Type 0 where
  by_connect : (c : Component) (leaf : TypeLeaf) (y : Leaf) → component_named m c.declaration.name ≡ Some c → Contains (leaves c.typ) leaf → is_clock leaf ≡ true
      → is_source (flow_of c.declaration.sort leaf.flip) ≡ false → driver_in (type_in m) (leaf_of c leaf) c.declaration.block ≡ From y → Gets m (leaf_of c leaf) y
  by_node : (c : Component) (leaf : TypeLeaf) (e : Expr) (k : ℕ) (y : Leaf) → component_named m c.declaration.name ≡ Some c → Contains (leaves c.typ) leaf → is_clock leaf ≡ true
      → c.declaration.sort ≡ A_node e → slice_get (leaves c.typ) k ≡ Some leaf → slice_get (named_leaves (type_in m) e) k ≡ Some y → Gets m (leaf_of c leaf) y

-- the link at some path
pub record LinkAt (design : Design) (x y : FlatLeaf) : Type 0 where
  pub path : List ℕ
  pub m : TypedModule
  pub sink : Leaf
  pub source : Leaf
  pub reached : module_at design path ≡ Some m
  pub gets : Gets m sink source
  pub from : x ≡ flat m path sink
  pub to : y ≡ flat m path source
