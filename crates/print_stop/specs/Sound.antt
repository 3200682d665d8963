-- Items whose wires and nodes stand in their module, and rows that show their leaves.
use Rattle.std.specs.Prelude.{◌≡◌, ℕ, List, [], ◌∷◌, ◌++◌, map, length, Some}
use Rattle.std.specs.List.{AllZip}
use Rattle.bit_words.specs.declared.value.Value.{Value}
use Rattle.bit_words.specs.Values.{integer_of}
use Rattle.fir_types.specs.declared.leaf.TypeLeaf.{TypeLeaf}
use Rattle.fir_types.specs.Leaves.{leaves}
use Rattle.fir_tree.specs.declared.expr.Expr.{Expr}
use Rattle.fir_tree.specs.declared.print.PrintItem.{PrintItem}
use Rattle.item_lines.specs.Formats.{shows}
use Rattle.prim_ops.specs.Shapes.{shaped, shape_of_value}
use Rattle.fir_meaning.specs.Components.{Design, TypedModule, Component, FlatLeaf, A_node, module_at, component_named, kind_of_leaf, width_of_leaf, type_in}
use Rattle.fir_meaning.specs.Values.{Valuation, Integers, scene_with, value}
use Rattle.fir_meaning.specs.States.{Stands}
use Rattle.print_stop.specs.Printing.{PathItem}
use Rattle.print_stop.specs.Wired.{IsItemWire}

-- The component of this name is a node of the expression, of one leaf, whose kind and width are those of the expression's one value.
pub record IsArgumentNode (m : TypedModule) (name : ℕ) (e : Expr) : Type 0 where
  pub node : Component
  pub named : node.declaration.name ≡ name
  pub declared : component_named m node.declaration.name ≡ Some node
  pub sort : node.declaration.sort ≡ A_node e
  pub leaf : TypeLeaf
  pub only : leaves node.typ ≡ leaf ∷ []
  pub path : leaf.path ≡ []
  pub shape : (f : Integers) → map shape_of_value (value e (scene_with (type_in m) f)) ≡ shaped (kind_of_leaf leaf) (width_of_leaf leaf) ∷ []

-- An item whose wire stands in its module, where the nodes of its arguments are the components of these names. A `stop` prints nothing.
pub record IsSound (design : Design) (item : PathItem) (nodes : List ℕ) : Type 0 where
  pub m : TypedModule
  pub stands : module_at design item.path ≡ Some m
  pub wire : Component
  pub named : wire.declaration.name ≡ item.wire
  pub is : IsItemWire m wire item.behind
  pub arguments : AllZip (IsArgumentNode m) nodes item.arguments
  pub shown : length nodes ≡ shows item.pieces
  pub silent : (code : ℕ) → item.stop ≡ Some code → item.pieces ≡ []

-- a component of one leaf at a path, and the leaves of an item: its wire, and the nodes of its arguments
abbrev pub leaf_at : List ℕ → ℕ → FlatLeaf
leaf_at path name = record { path = path; component = name; way = [] }

abbrev pub item_leaves : PathItem × List ℕ → List FlatLeaf
item_leaves both = leaf_at both.0.path both.0.wire ∷ map (leaf_at both.0.path) both.1

-- Those of all items, in order.
abbrev pub all_leaves : List (PathItem × List ℕ) → List FlatLeaf
all_leaves [] = []
all_leaves (first ∷ others) = item_leaves first ++ all_leaves others

-- The value has the kind and the width of the leaf.
pub record IsOfLeaf (design : Design) (x : FlatLeaf) (v : Value) : Type 0 where
  pub shape : (m : TypedModule) (c : Component) (leaf : TypeLeaf) → Stands design x.path m c leaf → c.declaration.name ≡ x.component → leaf.path ≡ x.way
      → shape_of_value v ≡ shaped (kind_of_leaf leaf) (width_of_leaf leaf)

-- The value is what a valuation gives to the leaf.
pub record Shows (design : Design) (rho : Valuation) (x : FlatLeaf) (v : Value) : Type 0 where
  pub shape : IsOfLeaf design x v
  pub integer : integer_of v ≡ rho x.path x.component x.way

-- An item of a circuit's list, as it stands at a path.
pub record IsOfPrint (item : PathItem) (print : PrintItem) : Type 0 where
  pub stop : item.stop ≡ print.stop
  pub pieces : item.pieces ≡ print.pieces
