-- The net that the passes make is the circuit's.
use Rattle.std.proofs.Common.{◌≡◌, ℕ, true, List, Option, Some, sym, ap, ◌∙◌}
use Rattle.std.specs.Prelude.{IsSome}
use Rattle.std.specs.List.{slice_get}
use Rattle.fir_types.specs.declared.leaf.TypeLeaf.{TypeLeaf}
use Rattle.fir_meaning.specs.Components.{TypedModule, Component, flow_of}
use Rattle.fir_meaning.specs.Values.{Valuation, scene_of}
use Rattle.fir_meaning.specs.Drives as tree_drives
use Rattle.fir_meaning.specs.States.{Stands, leaf_of}
use Rattle.fir_meaning.specs.Certain.{must_be_driven}
use Rattle.ground_net.specs.declared.ground.Ground.{Ground}
use Rattle.ground_net.specs.declared.net.Leaf.{Leaf}
use Rattle.ground_net.specs.declared.net.Net.{Net}
use Rattle.ground_net.specs.Reads.{lone_driver}
use Rattle.ground_net.specs.Cycles.{instant_of}
use Rattle.ground_net.specs.Nets.{IsNet}
use Rattle.net_of_circuit.specs.FlatOrder.{Standing, all_leaves}
use Rattle.net_of_circuit.specs.NetOf.{IsLeafOfNet, IsNetWith, IsNetOf, valuation_of}
use Rattle.memory_ports.specs.Placing.{IsPlaced, own_driver}
use Rattle.lowering_laws.proofs.Driving.{must, driven_source, driven_register, left_in_leaf, node_in_leaf}
use Rattle.lowering_laws.proofs.Whole.{Setting, spots, placed, match, lists, leaves_counted, leaf_at, driver_at}
use Rattle.lowering_laws.proofs.Whole as whole
use Rattle.lowering_laws.proofs.Stores.{elements, elements_counted}
use Rattle.lowering_laws.proofs.Nets as nets
use Rattle.lowering_laws.proofs.Clauses as clauses
use Rattle.assembly_laws.proofs.Showing.{shows}
use Rattle.assembly_laws.proofs.Roles.{part_at}
use Rattle.assembly_laws.proofs.Mains.{ports_are}
use Rattle.assembly_laws.proofs.Loading.{Loaded, memory_there, net_memories_counted, port_reads}
use Rattle.assembly_laws.proofs.Driving.{not_driven, not_node, flat_has}

module _ (z : Setting) (net : Net) (is : IsPlaced z.flat net) where
  leaf_is : (x : ℕ) (y : Standing) (leaf : Leaf) → slice_get (all_leaves (placed z)) x ≡ Some y → slice_get net.leaves x ≡ Some leaf → IsLeafOfNet (whole.texts z) y leaf
  leaf_is x y leaf there e =
      let at = leaf_at z x y there in
      let of = is.leaves x at.leaf leaf at.leaf_there e in
      record {
        kind = of.kind ∙ at.kind;
        width = of.width ∙ at.width;
        name = of.name ∙ at.name;
        place = of.place ∙ at.place;
        part = part_at z net is x y leaf there e;
      }

  has : (x : ℕ) (o : Option Ground) (driver : Ground) → slice_get z.flat.drivers x ≡ Some o → own_driver z.flat x ≡ Some driver → o ≡ Some driver
  has x o driver there e = sym (ap lone_driver there) ∙ e

  module _ (some : (path : List ℕ) (m : TypedModule) (c : Component) (leaf : TypeLeaf) → Stands (whole.design z) path m c leaf → must_be_driven c.declaration.sort (flow_of c.declaration.sort leaf.flip) ≡ true → (rho : Valuation)
      → IsSome (tree_drives.drives (scene_of m path rho) (leaf_of c leaf) c.declaration.block)) (loaded : Loaded) where
    pub net_with : IsNetWith (whole.texts z) (whole.design z) (placed z) (elements z) net
    net_with = record {
      counted = is.counted ∙ leaves_counted z;
      ports = ports_are z net is;
      leaves_are = leaf_is;
      driven = λ path m c leaf x y driver s t rho stands set there same drives seen.
          let instant = instant_of net t rho in
          let own = flat_has z net is x y driver there (not_driven z path m c leaf stands set x y there same) drives in
          let o = driver_at z x y there in
          left_in_leaf z.fitted z.well z.lowered z.is z.driven z.expanded (spots z) (placed z) (match z) (lists z) instant (nets.fits_seen z net is instant seen.shapes) path m c leaf stands set
          (some path m c leaf stands (must c.declaration.sort leaf.flip (driven_source c leaf set) (driven_register c leaf set)) (valuation_of (all_leaves (placed z)) instant)) x y there same o.0 driver o.2 (has x o.0 driver o.1 own);
      nodes = λ x y e k driver s t rho there sort clock kth drives seen.
          let instant = instant_of net t rho in
          let own = flat_has z net is x y driver there (not_node z y e sort) drives in
          let o = driver_at z x y there in
          node_in_leaf z.fitted z.well z.lowered z.is z.driven z.expanded (spots z) (placed z) (match z) (lists z) instant (nets.fits_seen z net is instant seen.shapes) x y e k o.0 driver there sort clock kth o.2 (has x o.0 driver o.1 own);
      port_reads = λ x y memory port field way driver s t rho there sort latency turned path has seen. port_reads z net is s t rho seen loaded x y memory port field way driver there sort latency turned path has;
      reads = λ x k y w there w_there h. clauses.reads z net is x y there (shows z x y there) k w w_there h;
      all_reads = λ x y f there r. clauses.all_reads z net is x y there (shows z x y there) f r;
      registers = λ n register y s t rho e there seen. nets.registers z net is (elements z) n register y s t rho e there seen;
      takes = λ n k register y w e there w_there part h. nets.takes z net is n k register y w e there w_there part h;
      all_takes = λ n register y f e there t. nets.all_takes z net is n register y f e there t;
      all_memories_there = net_memories_counted z net is;
      all_elements_there = elements_counted z;
      memories = λ m p memory element nm at_memory at_element there. memory_there z net is m p memory element nm at_memory at_element there;
      words = is.words;
    }

    pub net_is : IsNet net → IsNetOf (whole.texts z) (whole.design z) net
    net_is well = record {
      well_formed = well;
      main = z.main;
      found = z.found;
      placed = placed z;
      order = z.matched.order;
      elements = elements z;
      is = net_with;
    }
