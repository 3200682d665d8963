-- What the drivers of the net have is what the circuit's statements and nodes leave.
use Rattle.std.proofs.Common.{◌≡◌, ℕ, Bool, true, false, List, [], ◌∷◌, ◌++◌, Option, Some, None, refl, sym, ap, ap₂, ◌∙◌, true≢false}
use Rattle.std.specs.List.{slice_get}
use Rattle.fir_types.specs.declared.leaf.TypeLeaf.{TypeLeaf}
use Rattle.fir_types.specs.declared.memory.Memory.{Memory}
use Rattle.fir_tree.specs.declared.expr.Expr.{Expr}
use Rattle.fir_meaning.specs.Components.{TypedModule, Component, Sort, A_memory, A_node, An_instance, flat, flow_of, target_in}
use Rattle.fir_meaning.specs.States.{Stands, is_driven, is_port, is_source, leaf_of}
use Rattle.fir_meaning.proofs.Settling.{port_target, one_leaf}
use Rattle.fir_meaning.proofs.Ports.{instance_inside, target_sort}
use Rattle.ground_net.specs.declared.ground.Ground.{Ground}
use Rattle.ground_net.specs.declared.circuit.GroundRole.{GroundRole}
use Rattle.ground_net.specs.declared.circuit.GroundRole.TheVariants.{Input, Clock, Register, Plain}
use Rattle.ground_net.specs.declared.net.Net.{Net}
use Rattle.ground_net.specs.Reads.{driver_of}
use Rattle.net_of_circuit.specs.FlatOrder.{Standing, flat_of}
use Rattle.memory_ports.specs.Placing.{IsPlaced, driver_for, own_driver}
use Rattle.lowering_laws.proofs.Heights.{none_some}
use Rattle.lowering_laws.proofs.Whole.{Setting, design, leaf_at}
use Rattle.lowering_laws.proofs.Drivers.{all, driven_source, entry_here}
use Rattle.assembly_laws.proofs.Showing.{ShowsData, nothing, what_is_read, shows_data}

-- a driver where no read data are shown is the flat circuit's
kept_driver : (r : GroundRole) (o : Option Ground) (driver : Ground) → driver_for r None o ≡ Some driver → o ≡ Some driver
kept_driver Input o driver e = none_some e
kept_driver Clock o driver e = none_some e
kept_driver Register o driver e = e
kept_driver Plain o driver e = e

no_port : (sort : Sort) (memory : Memory) → sort ≡ A_memory memory → is_port sort ≡ true → ⊥
no_port sort memory q p = true≢false (sym p ∙ ap is_port q)

no_node : (sort : Sort) (e : Expr) (memory : Memory) → sort ≡ A_node e → sort ≡ A_memory memory → ⊥
no_node sort e memory p q = true≢false (ap is_node (sym p ∙ q)) where
  is_node : Sort → Bool
  is_node (A_node e) = true
  is_node _ = false

module _ (z : Setting) where
  -- read data are no leaf that statements decide
  pub not_driven : (path : List ℕ) (m : TypedModule) (c : Component) (leaf : TypeLeaf) → Stands (design z) path m c leaf → is_driven c leaf ≡ true → (x : ℕ) (y : Standing) → slice_get (all z) x ≡ Some y → flat m path (leaf_of c leaf) ≡ flat_of y
      → (memory : Memory) → y.0.c.declaration.sort ≡ A_memory memory → y.1.flip ≡ false → ⊥
  not_driven path m c leaf stands driven x y there same memory sort_is turned = by (target_in c.declaration.sort) refl where
    by : (t : Option ℕ) → target_in c.declaration.sort ≡ t → ⊥
    by None q =
        let is : y ≡ (record { path = path; m = m; c = c }, leaf) = entry_here z path m c leaf stands q x y there same in
        true≢false (sym (ap₂ (λ s b. is_source (flow_of s b)) sort_is turned) ∙ (ap (λ (w : Standing). is_source (flow_of w.0.c.declaration.sort w.1.flip)) is ∙ driven_source c leaf driven))
    by (Some target) q =
        let sort : c.declaration.sort ≡ An_instance target = target_sort c.declaration.sort target q in
        let in_ = instance_inside (design z) z.well.bundles path m c leaf target stands sort in
        let n : TypedModule = in_.0 in
        let p : Component = in_.1 in
        let part : TypeLeaf = in_.2 in
        let inner = in_.3 in
        let port : is_port p.declaration.sort ≡ true = in_.4 in
        let names : List ℕ = path ++ c.declaration.name ∷ [] in
        let is : y ≡ (record { path = names; m = n; c = p }, part) =
        entry_here z names n p part inner (port_target p.declaration.sort port) x y there (sym (one_leaf path m n c p leaf part target stands.declared sort inner.declared port in_.6) ∙ same) in
        no_port p.declaration.sort memory (sym (ap (λ (w : Standing). w.0.c.declaration.sort) is) ∙ sort_is) port

  pub not_node : (y : Standing) (e : Expr) → y.0.c.declaration.sort ≡ A_node e → (memory : Memory) → y.0.c.declaration.sort ≡ A_memory memory → y.1.flip ≡ false → ⊥
  not_node y e sort memory held turned = no_node y.0.c.declaration.sort e memory sort held

  -- The driver of the net is the flat circuit's where the leaf is no read data.
  pub flat_has : (net : Net) → IsPlaced z.flat net → (x : ℕ) (y : Standing) (driver : Ground) → slice_get (all z) x ≡ Some y → ((memory : Memory) → y.0.c.declaration.sort ≡ A_memory memory → y.1.flip ≡ false → ⊥)
      → driver_of net x ≡ Some driver → own_driver z.flat x ≡ Some driver
  flat_has net is x y driver there no_data has = by (shows_data z x y there) where
    by : ShowsData z x y → own_driver z.flat x ≡ Some driver
    by (nothing e never) =
        let at = leaf_at z x y there in
        kept_driver at.leaf.role (own_driver z.flat x) driver (sym (is.drivers x at.leaf None at.leaf_there e) ∙ has)
    by (what_is_read shown e r) = absurd (no_data r.memory r.sort r.source)
