-- The same for the expressions of a well typed module.
use Rattle.std.proofs.Common.{◌≡◌, ◌==◌, true, List, map, length, Some, sym, ap, ap₂, ◌∙◌, subst}
use Rattle.std.specs.Prelude.{Contains}
use Rattle.std.proofs.lemmas.Bool.{eqb-true}
use Rattle.fir_types.specs.declared.leaf.TypeLeaf.{TypeLeaf}
use Rattle.fir_types.specs.Leaves.{leaves}
use Rattle.fir_tree.specs.declared.circuit.Module.{Module}
use Rattle.fir_tree.specs.declared.expr.Expr.{Expr}
use Rattle.prim_ops.specs.Shapes.{Shape, shape_of_value}
use Rattle.fir_meaning.specs.Components.{TypedModule, Component, Leaf, component_named, type_in, type_or_empty}
use Rattle.fir_meaning.specs.Values.{Integers, scene_with, value}
use Rattle.fir_meaning.specs.Mentions.{joined, mentions}
use Rattle.fir_meaning.specs.States.{leaf_of}
use Rattle.fir_meaning.specs.WellTyped.{known_in, typed, is_narrow, HasTypes}
use Rattle.circuit_laws.specs.Shapes.{shapes}
use Rattle.circuit_laws.proofs.Shaping.{shaped}
use Rattle.circuit_laws.proofs.Pieces.{found_in, mapped_some}
use Rattle.circuit_laws.proofs.Typing.{Fits, typed_shapes, typed_counted, typed_mentions}

module _ (holder : Module) (m : TypedModule) (has : HasTypes holder m) where
  fits : Fits (known_in m) (type_in m)
  fits = record {
    same = λ name typ e.
        let c = mapped_some (λ (c : Component). c.typ) (component_named m name) typ e in
        ap type_or_empty c.1 ∙ c.2;
    narrow = λ name typ e.
        let c = mapped_some (λ (c : Component). c.typ) (component_named m name) typ e in
        let among = found_in (λ (x : Component). x.declaration.name == name) m.components c.0 c.1 in
        subst (λ t. is_narrow t ≡ true) c.2 (has.parts c.0 (among.0));
  }

  pub module_shapes : (e : Expr) (ss : List Shape) → typed e (known_in m) ≡ Some ss → shapes e (type_in m) ≡ ss
  module_shapes = typed_shapes (known_in m) (type_in m) fits

  pub module_values : (e : Expr) (ss : List Shape) → typed e (known_in m) ≡ Some ss → (f : Integers) → map shape_of_value (value e (scene_with (type_in m) f)) ≡ ss
  module_values e ss h f = shaped e (scene_with (type_in m) f) ∙ module_shapes e ss h

  pub module_counted : (e : Expr) (ss : List Shape) → typed e (known_in m) ≡ Some ss → length (mentions e (type_in m)) ≡ length ss
  module_counted = typed_counted (known_in m) (type_in m) fits

  pub module_mentions : (e : Expr) (ss : List Shape) → typed e (known_in m) ≡ Some ss → (y : Leaf) → Contains (joined (mentions e (type_in m))) y
      → (c : Component) × (component_named m y.component ≡ Some c) × (leaf : TypeLeaf) × Contains (leaves c.typ) leaf × (leaf_of c leaf ≡ y)
  module_mentions e ss h y among =
      let at = typed_mentions (known_in m) (type_in m) fits e ss h y among in
      let c = mapped_some (λ (c : Component). c.typ) (component_named m y.component) at.typ at.is in
      let name = found_in (λ (x : Component). x.declaration.name == y.component) m.components c.0 c.1 in (
        c.0,
        c.1,
        at.at.leaf,
        subst (λ t. Contains (leaves t) at.at.leaf) (sym c.2) at.at.listed,
        ap₂ (λ n w. record { component = n; way = w }) (eqb-true c.0.declaration.name y.component name.1) at.at.at,
      )
