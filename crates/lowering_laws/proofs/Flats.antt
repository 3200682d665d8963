-- The flat circuit is that of the circuit.
use Rattle.std.proofs.Common.{◌≡◌, ℕ, true, List, Option, Some, sym, ap, ◌∙◌}
use Rattle.std.specs.Prelude.{IsSome}
use Rattle.std.specs.List.{slice_get}
use Rattle.fir_types.specs.declared.leaf.TypeLeaf.{TypeLeaf}
use Rattle.fir_meaning.specs.Components.{TypedModule, Component, flow_of}
use Rattle.fir_meaning.specs.Values.{Valuation, scene_of}
use Rattle.fir_meaning.specs.Drives as tree_drives
use Rattle.fir_meaning.specs.States.{Stands, leaf_of}
use Rattle.fir_meaning.specs.Certain.{must_be_driven}
use Rattle.ground_net.specs.declared.ground.Ground.{Ground}
use Rattle.ground_net.specs.Reads.{lone_driver}
use Rattle.net_of_circuit.specs.FlatOrder.{all_leaves}
use Rattle.net_of_circuit.specs.NetOf.{valuation_of}
use Rattle.lowering_laws.specs.FlatOf.{IsFlatOf}
use Rattle.lowering_laws.proofs.Heights.{some_same}
use Rattle.lowering_laws.proofs.Driving.{must, driven_source, driven_register, left_in_leaf, node_in_leaf}
use Rattle.lowering_laws.proofs.Whole.{Setting, spots, placed, match, lists, leaves_counted, leaf_at, driver_at}
use Rattle.lowering_laws.proofs.Whole as whole
use Rattle.lowering_laws.proofs.Stores.{elements, elements_counted, memories_counted, memories_are}

module _ (z : Setting) (some : (path : List ℕ) (m : TypedModule) (c : Component) (leaf : TypeLeaf) → Stands (whole.design z) path m c leaf → must_be_driven c.declaration.sort (flow_of c.declaration.sort leaf.flip) ≡ true → (rho : Valuation)
    → IsSome (tree_drives.drives (scene_of m path rho) (leaf_of c leaf) c.declaration.block)) where
  has : (x : ℕ) (o : Option Ground) (driver : Ground) → slice_get z.flat.drivers x ≡ Some o → lone_driver (slice_get z.flat.drivers x) ≡ Some driver → o ≡ Some driver
  has x o driver there e = sym (ap lone_driver there) ∙ e

  pub flat_is : IsFlatOf z.fitted z.flat
  flat_is = record {
    main = z.main;
    found = z.found;
    placed = placed z;
    order = z.matched.order;
    counted = leaves_counted z;
    leaves_are = λ x y leaf e f.
        let l = leaf_at z x y e in
        let same = some_same (sym l.leaf_there ∙ f) in
        record {
          name = ap (λ g. g.name) (sym same) ∙ l.name;
          kind = ap (λ g. g.kind) (sym same) ∙ l.kind;
          width = ap (λ g. g.width) (sym same) ∙ l.width;
          place = ap (λ g. g.place) (sym same) ∙ l.place;
        };
    driven = λ path m c leaf x y driver instant stands set e same own sees.
        let o = driver_at z x y e in
        left_in_leaf z.fitted z.well z.lowered z.is z.driven z.expanded (spots z) (placed z) (match z) (lists z) instant sees.each path m c leaf stands set
        (some path m c leaf stands (must c.declaration.sort leaf.flip (driven_source c leaf set) (driven_register c leaf set)) (valuation_of (all_leaves (placed z)) instant)) x y e same o.0 driver o.2 (has x o.0 driver o.1 own);
    nodes = λ x y e k driver instant there sort clock kth own sees.
        let o = driver_at z x y there in
        node_in_leaf z.fitted z.well z.lowered z.is z.driven z.expanded (spots z) (placed z) (match z) (lists z) instant sees.each x y e k o.0 driver there sort clock kth o.2 (has x o.0 driver o.1 own);
    elements = elements z;
    all_memories_there = memories_counted z;
    all_elements_there = elements_counted z;
    memories = memories_are z;
  }
