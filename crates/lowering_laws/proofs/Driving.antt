-- What the drivers of the flat circuit leave is what the circuit's statements do.
use Rattle.std.proofs.Common.{◌≡◌, ℕ, ◌+◌, ◌<◌, ◌&&◌, Bool, true, false, not, List, [], ◌∷◌, ◌++◌, map, Option, Some, None, option_map, option_and_then, ℤ, refl, sym, ap, ap₂, ◌∙◌, subst, arith, if◌then◌else◌, slice_index, true≢false, ⊎_elim}
use Rattle.std.specs.Prelude.{Contains, is_some, IsSome}
use Rattle.std.specs.List.{slice_get, flat_map, sum_by}
use Rattle.std.proofs.lemmas.Grind.{flat_map-append}
use Rattle.std.proofs.lemmas.List.Concat.{flat_map-cons}
use Rattle.bit_words.specs.declared.value.Value.{Value}
use Rattle.bit_words.specs.Values.{integer_of}
use Rattle.fir_types.specs.declared.leaf.TypeLeaf.{TypeLeaf}
use Rattle.fir_types.specs.declared.leaf.PathStep.TheVariants as step
use Rattle.fir_types.specs.Leaves.{leaves}
use Rattle.fir_types.specs.Bundles.{instance_of}
use Rattle.fir_tree.specs.declared.expr.Expr.{Expr}
use Rattle.fir_tree.specs.declared.scope.Fitted.{Fitted}
use Rattle.prim_ops.specs.Shapes.{shape_of_value}
use Rattle.fir_meaning.specs.Components.{Design, TypedModule, Component, Sort, An_input, An_output, A_wire, A_register, A_reset_register, A_memory, An_instance, A_node, design_of, module_at, component_named, target_in, typed_ports, flat, flat_through, type_in, is_clock, flow_of}
use Rattle.fir_meaning.specs.Values.{Valuation, scene_of, scene_with}
use Rattle.fir_meaning.specs.Values as tree
use Rattle.fir_meaning.specs.Drives as tree_drives
use Rattle.fir_meaning.specs.Loops as tree_loops
use Rattle.fir_meaning.specs.Mentions as tree_reads
use Rattle.fir_meaning.specs.States.{Stands, is_port, is_register, is_source, is_driven, leaf_of}
use Rattle.fir_meaning.specs.Certain.{must_be_driven}
use Rattle.fir_meaning.specs.WellTyped.{leaf_shape}
use Rattle.fir_meaning.proofs.Settling.{local, flat_none, port_target, one_leaf}
use Rattle.fir_meaning.proofs.Ports.{component_found, instance_inside, target_sort}
use Rattle.fir_meaning.proofs.Blocks.{drives_same}
use Rattle.fir_meaning.proofs.Tracking.{tracked, each_same}
use Rattle.circuit_laws.specs.WellFormed.{IsWellFormed}
use Rattle.circuit_laws.proofs.Reached.{known_module}
use Rattle.circuit_laws.proofs.TypedModules.{module_values, module_counted}
use Rattle.ground_net.specs.declared.ground.Ground.{Ground}
use Rattle.ground_net.specs.declared.circuit.GroundCircuit.{GroundCircuit}
use Rattle.ground_net.specs.declared.circuit.DrivenCircuit.{DrivenCircuit}
use Rattle.ground_net.specs.declared.circuit.DrivenModule.{DrivenModule}
use Rattle.ground_net.specs.declared.circuit.GroundInstance.{GroundInstance}
use Rattle.ground_net.specs.declared.circuit.GroundLeaf.{GroundLeaf}
use Rattle.ground_net.specs.declared.circuit.GroundRole.TheVariants.{Input, Clock, Register, Plain}
use Rattle.ground_net.specs.Grounds.{Instant, value}
use Rattle.ground_net.specs.Statements.{drives}
use Rattle.ground_net.specs.Renumbering.{with_numbers, seen_by}
use Rattle.ground_net.specs.Reads.{lone_driver}
use Rattle.ground_net.proofs.Layers.{renumbered_value}
use Rattle.expand_whens.specs.Expanding.{IsExpanded, IsDriver, Drives}
use Rattle.net_of_circuit.specs.FlatOrder.{Placed, Standing, all_leaves, flat_of, ListsLeaves}
use Rattle.net_of_circuit.specs.NetOf.{valuation_of}
use Rattle.net_of_circuit.specs.Numbers.{ModuleLeaf, module_leaves, leaves_of, leaves_before, scene_at, is_set, role_of}
use Rattle.net_of_circuit.specs.Lowering.{IsGroundOf}
use Rattle.flatten_instances.specs.FlatOrder.{Spot}
use Rattle.flatten_instances.specs.Numbers.{AreNumbers, driver_in}
use Rattle.flatten_instances.specs.Instances as paths
use Rattle.flatten_instances.specs.Flat.{IsFlatDriver, IsLeafAt, is_input, by_its_module, by_its_holder, given}
use Rattle.net_laws.specs.Typed.{HasPortsFirst}
use Rattle.net_laws.proofs.Seen.{get-map'}
use Rattle.net_laws.proofs.Lists.{in_list, place_of, later, below_length, map_at, from_map_at, in_append}
use Rattle.net_laws.proofs.Accepted.{ports_first}
use Rattle.lowering_laws.proofs.Heights.{some_same, none_some}
use Rattle.lowering_laws.proofs.Parts.{item, instance_place, leaf_behind}
use Rattle.lowering_laws.proofs.Matching.{Two, two_back, Known, Leads, at_main, behind, leads_at, leads_known, IsAt, port_size}
use Rattle.lowering_laws.proofs.Seeing as seeing
use Rattle.lowering_laws.proofs.Seeing.{Fits, inner_leaf, seen_agree, inner_fits}

-- Roles

role_not_input : (a b p s : Bool) → (p && s) ≡ false → is_input (if a then Clock else if b then Register else if p && s then Input else Plain) ≡ false
role_not_input true b p s e = refl
role_not_input false true p s e = refl
role_not_input false false p s e = ap (λ x. is_input (if x then Input else Plain)) e

and_false : (p s : Bool) → s ≡ false → (p && s) ≡ false
and_false true s e = e
and_false false s e = refl

and_left : (p s : Bool) → p ≡ false → (p && s) ≡ false
and_left p s e = ap (λ x. x && s) e

-- what statements set is no input, and neither is a node's leaf
set_not_input : (c : Component) (leaf : TypeLeaf) → is_source (flow_of c.declaration.sort leaf.flip) ≡ false → is_input (role_of (c, leaf)) ≡ false
set_not_input c leaf s = role_not_input (is_clock leaf) (is_register c.declaration.sort) (is_port c.declaration.sort) (is_source (flow_of c.declaration.sort leaf.flip)) (and_false (is_port c.declaration.sort) (is_source (flow_of c.declaration.sort leaf.flip)) s)

plain_not_input : (c : Component) (leaf : TypeLeaf) → is_port c.declaration.sort ≡ false → is_input (role_of (c, leaf)) ≡ false
plain_not_input c leaf p = role_not_input (is_clock leaf) (is_register c.declaration.sort) (is_port c.declaration.sort) (is_source (flow_of c.declaration.sort leaf.flip)) (and_left (is_port c.declaration.sort) (is_source (flow_of c.declaration.sort leaf.flip)) p)

role_input : (a b p s : Bool) → a ≡ false → b ≡ false → p ≡ true → s ≡ true → is_input (if a then Clock else if b then Register else if p && s then Input else Plain) ≡ true
role_input a b p s e f g h =
    ap (λ x. is_input (if x then Clock else if b then Register else if p && s then Input else Plain)) e
    ∙ (ap (λ x. is_input (if x then Register else if p && s then Input else Plain)) f
    ∙ (ap (λ x. is_input (if x && s then Input else Plain)) g ∙ ap (λ x. is_input (if x then Input else Plain)) h))

port_held : (sort : Sort) → is_port sort ≡ true → is_register sort ≡ false
port_held An_input e = refl
port_held An_output e = refl
port_held A_wire e = refl
port_held (A_register clock) e = absurd (true≢false (sym e))
port_held (A_reset_register clock reset init) e = absurd (true≢false (sym e))
port_held (A_memory memory) e = refl
port_held (An_instance target) e = refl
port_held (A_node expr) e = refl

port_input : (p : Component) (part : TypeLeaf) → is_port p.declaration.sort ≡ true → is_source (flow_of p.declaration.sort part.flip) ≡ true → is_clock part ≡ false → is_input (role_of (p, part)) ≡ true
port_input p part port source clock =
    role_input (is_clock part) (is_register p.declaration.sort) (is_port p.declaration.sort) (is_source (flow_of p.declaration.sort part.flip)) clock (port_held p.declaration.sort port) port source

-- Driven leaves

not_true : (b : Bool) → not b ≡ true → b ≡ false
not_true true e = absurd (true≢false (sym e))
not_true false e = refl

both_true : (a b : Bool) → (a && b) ≡ true → (a ≡ true) × (b ≡ true)
both_true true b e = (refl, e)
both_true false b e = absurd (true≢false (sym e))

pub driven_source : (c : Component) (leaf : TypeLeaf) → is_driven c leaf ≡ true → is_source (flow_of c.declaration.sort leaf.flip) ≡ false
driven_source c leaf d = not_true _ (both_true _ _ d).0

pub driven_register : (c : Component) (leaf : TypeLeaf) → is_driven c leaf ≡ true → is_register c.declaration.sort ≡ false
driven_register c leaf d = not_true _ (both_true _ _ (both_true _ _ d).1).0

driven_clock : (c : Component) (leaf : TypeLeaf) → is_driven c leaf ≡ true → is_clock leaf ≡ false
driven_clock c leaf d = not_true _ (both_true _ _ (both_true _ _ d).1).1

driven_set : (c : Component) (leaf : TypeLeaf) → is_driven c leaf ≡ true → is_set (c, leaf) ≡ true
driven_set c leaf d = ap₂ (λ a b. not a && not b) (driven_source c leaf d) (driven_clock c leaf d)

pub must : (sort : Sort) (flip : Bool) → is_source (flow_of sort flip) ≡ false → is_register sort ≡ false → must_be_driven sort (flow_of sort flip) ≡ true
must An_input true s r = refl
must An_input false s r = absurd (true≢false s)
must An_output true s r = absurd (true≢false s)
must An_output false s r = refl
must A_wire flip s r = refl
must (A_register clock) flip s r = absurd (true≢false r)
must (A_reset_register clock reset init) flip s r = absurd (true≢false r)
must (A_memory memory) true s r = refl
must (A_memory memory) false s r = absurd (true≢false s)
must (An_instance target) true s r = refl
must (An_instance target) false s r = absurd (true≢false s)
must (A_node expr) flip s r = absurd (true≢false s)

instance_sort : (sort : Sort) (target : ℕ) → target_in sort ≡ Some target → sort ≡ An_instance target
instance_sort (An_instance t) target e = ap An_instance (some_same e)
instance_sort An_input target e = none_some e
instance_sort An_output target e = none_some e
instance_sort A_wire target e = none_some e
instance_sort (A_register clock) target e = none_some e
instance_sort (A_reset_register clock reset init) target e = none_some e
instance_sort (A_memory memory) target e = none_some e
instance_sort (A_node expr) target e = none_some e

mapped : {A B : Type 0} (f : A → B) (o : Option A) (b : B) → option_map f o ≡ Some b → (a : A) × (o ≡ Some a) × (f a ≡ b)
mapped f None b e = none_some e
mapped f (Some a) b e = (a, refl, some_same e)

snoc_same : (xs ys : List ℕ) (a b : ℕ) → xs ++ a ∷ [] ≡ ys ++ b ∷ [] → (xs ≡ ys) × (a ≡ b)
snoc_same [] [] a b e = (refl, head e) where
  head : a ∷ [] ≡ b ∷ [] → a ≡ b
  head e = cc
snoc_same [] (y ∷ []) a b e = absurd cc
snoc_same [] (y ∷ z ∷ ys) a b e = absurd cc
snoc_same (x ∷ []) [] a b e = absurd cc
snoc_same (x ∷ z ∷ xs) [] a b e = absurd cc
snoc_same (x ∷ xs) (y ∷ ys) a b e =
    let r = snoc_same xs ys a b (tails e) in
    (ap₂ (λ u v. u ∷ v) (heads e) r.0, r.1)
  where
    heads : x ∷ (xs ++ a ∷ []) ≡ y ∷ (ys ++ b ∷ []) → x ≡ y
    heads e = cc

    tails : x ∷ (xs ++ a ∷ []) ≡ y ∷ (ys ++ b ∷ []) → xs ++ a ∷ [] ≡ ys ++ b ∷ []
    tails e = cc

-- A leaf of a port stands among the ports' leaves.
port_below : (m : TypedModule) (first : HasPortsFirst m) (j : ℕ) (p : Component) (l : TypeLeaf) → slice_get (module_leaves m) j ≡ Some (p, l) → is_port p.declaration.sort ≡ true → j < sum_by port_size m.components
port_below m first j p l e port =
    ⊎_elim
    (λ here.
    let below = below_length (flat_map leaves_of first.ports) j (p, l) here in
    let size = seeing.ports_sum m first in
    subst (λ n. j < n) (sym size) below)
    (λ there.
    let c = from_leaves first.others there.0 there.2 in
    absurd (true≢false (sym port ∙ first.none p c)))
    (in_append (flat_map leaves_of first.ports) (flat_map leaves_of first.others) j (p, l) (subst (λ x. slice_get x j ≡ Some (p, l)) (ap (flat_map leaves_of) first.are ∙ flat_map-append leaves_of first.ports first.others) e))
  where
    from_leaves : (cs : List Component) (k : ℕ) → slice_get (flat_map leaves_of cs) k ≡ Some (p, l) → Contains cs p
    from_leaves [] k e = none_some e
    from_leaves (b ∷ cs) k e = ⊎_elim
        (λ here. let q = from_map_at (λ x. (b, x)) (leaves b.typ) k (p, l) here in (0, omega arith, ap (λ (x : ModuleLeaf). x.0) q.2))
        (λ there. later b cs p (from_leaves cs there.0 there.2))
        (in_append (leaves_of b) (flat_map leaves_of cs) k (p, l) (subst (λ x. slice_get x k ≡ Some (p, l)) (flat_map-cons leaves_of b cs) e))

module _ (fitted : Fitted) (well : IsWellFormed fitted) (lowered : GroundCircuit) (is : IsGroundOf fitted lowered) (driven : DrivenCircuit) (expanded : IsExpanded lowered driven) where
  abbrev design : Design
  design = design_of fitted

  abbrev Way : List ℕ → ℕ → TypedModule → DrivenModule → List ℕ → Type 0
  Way = Leads fitted well lowered is driven expanded

  -- a path of instances leads to the module of the number
  pub leads_number : {path : List ℕ} {n : ℕ} {m : TypedModule} {d : DrivenModule} {names : List ℕ} → Way path n m d names → paths.module_at driven path ≡ Some n
  leads_number (at_main m d at known) = refl
  leads_number (behind {path = front} {n = n} {d = d} i at target c gi inner child leads part there placed named at' known) =
      let found : slice_get driven.modules n ≡ Some d = (leads_known fitted well lowered is driven expanded leads).driven_there in
      ap (λ o. option_map (λ (g : GroundInstance). g.module) (paths.instance_in driven o i)) (leads_number leads)
      ∙ (ap (λ o. option_map (λ (g : GroundInstance). g.module) (option_and_then (λ (m : DrivenModule). slice_get m.instances i) o)) found
      ∙ ap (option_map (λ (g : GroundInstance). g.module)) there)

  module _ (spots : List Spot) (placed : List Placed) (match : Two (IsAt fitted well lowered is driven expanded) spots (all_leaves placed)) (lists : ListsLeaves design placed) (instant : Instant) (fits : Fits fitted well lowered is driven expanded spots placed match lists instant) where
    abbrev run : Valuation
    run = valuation_of (all_leaves placed) instant

    -- One module

    module _ {path : List ℕ} {n : ℕ} {m : TypedModule} {d : DrivenModule} {names : List ℕ} (leads : Way path n m d names) (numbers : List ℕ) (are : AreNumbers driven spots path n numbers) where
      abbrev inner : Instant
      inner = seen_by (slice_index numbers) instant

      abbrev K : Known fitted well lowered is driven expanded n m d
      K = leads_known fitted well lowered is driven expanded leads

      -- the ground statements leave in a leaf what the circuit's do
      left_same : (y : ℕ) (c : Component) (leaf : TypeLeaf) → slice_get (module_leaves m) y ≡ Some (c, leaf) → is_set (c, leaf) ≡ true
          → option_map integer_of (drives inner y K.g.body) ≡ tree_drives.drives (scene_of m names run) (leaf_of c leaf) c.declaration.block
      left_same y c leaf at set =
          K.ground_is.values y (c, leaf) inner at set (inner_fits fitted well lowered is driven expanded spots placed match lists leads numbers are instant fits)
          ∙ drives_same (type_in m) (leaf_of c leaf) c.declaration.block (scene_at m inner).integers (local m names run)
          (seen_agree fitted well lowered is driven expanded spots placed match lists leads numbers are instant (tree_reads.joined (tree_loops.live (type_in m) (leaf_of c leaf) c.declaration.block))
          (λ z h. let r = (K.ground_is.reads y (c, leaf) at set).all z h in (r.0, r.1)))

      -- the driver of a leaf
      pub driver_is : (y : ℕ) (g : Ground) → driver_in d y ≡ Some g → (leaf : GroundLeaf) × (slice_get K.g.leaves y ≡ Some leaf) × IsDriver leaf y K.g.body g
      driver_is y g e = by (slice_get d.drivers y) refl e where
        of : (leaf : GroundLeaf) (o : Option Ground) → o ≡ Some g → Drives leaf y K.g.body o → IsDriver leaf y K.g.body g
        of leaf None q r = none_some q
        of leaf (Some h) q r = subst (λ z. IsDriver leaf y K.g.body z) (some_same q) r

        by : (o : Option (Option Ground)) → slice_get d.drivers y ≡ o → lone_driver o ≡ Some g → (leaf : GroundLeaf) × (slice_get K.g.leaves y ≡ Some leaf) × IsDriver leaf y K.g.body g
        by None q h = none_some h
        by (Some o) q h =
            let leaf = item K.g.leaves y (subst (λ k. y < k) K.driven_is.drivers.counted (below_length d.drivers y o q)) in
            (leaf.0, leaf.1, of leaf.0 o h (K.driven_is.drivers.each y leaf.0 o leaf.1 q))

      -- where something is left, the renumbered driver has it
      driver_has : (y : ℕ) (g : Ground) (v : Value) → driver_in d y ≡ Some g → drives inner y K.g.body ≡ Some v → integer_of v ≡ integer_of (value (with_numbers (slice_index numbers) g) instant)
      driver_has y g v e left = ap integer_of (sym (renumbered_value (slice_index numbers) instant g ∙ (driver_is y g e).2.has inner v left))

      pub driven_value : (y : ℕ) (c : Component) (leaf : TypeLeaf) (g : Ground) → slice_get (module_leaves m) y ≡ Some (c, leaf) → is_set (c, leaf) ≡ true → driver_in d y ≡ Some g
          → is_some (tree_drives.drives (scene_of m names run) (leaf_of c leaf) c.declaration.block) ≡ true
          → tree_drives.drives (scene_of m names run) (leaf_of c leaf) c.declaration.block ≡ Some (integer_of (value (with_numbers (slice_index numbers) g) instant))
      driven_value y c leaf g at set e some = by (drives inner y K.g.body) refl where
        by : (o : Option Value) → drives inner y K.g.body ≡ o → tree_drives.drives (scene_of m names run) (leaf_of c leaf) c.declaration.block ≡ Some (integer_of (value (with_numbers (slice_index numbers) g) instant))
        by None q = absurd (true≢false (sym some ∙ ap is_some (sym (left_same y c leaf at set) ∙ ap (option_map integer_of) q)))
        by (Some v) q = sym (left_same y c leaf at set) ∙ (ap (option_map integer_of) q ∙ ap Some (driver_has y g v e q))

    -- Flat drivers

    -- the role of a leaf of the module
    input_is : (s : Spot) (m : TypedModule) (d : DrivenModule) (names : List ℕ) (leads : Way s.path s.within m d names) (c : Component) (leaf : TypeLeaf) → slice_get (module_leaves m) s.number ≡ Some (c, leaf)
        → (gl : GroundLeaf) → IsLeafAt driven s gl → is_input gl.role ≡ is_input (role_of (c, leaf))
    input_is s m d names leads c leaf at gl there =
        let K = leads_known fitted well lowered is driven expanded leads in
        let same : there.m ≡ d = some_same (sym there.found ∙ K.driven_there) in
        let here : slice_get K.g.leaves s.number ≡ Some gl = ap (λ l. slice_get l s.number) (sym (ap (λ (z : DrivenModule). z.leaves) same ∙ K.driven_is.leaves)) ∙ there.there in
        ap is_input (K.ground_is.leaves_are s.number (c, leaf) gl at here).role

    -- The driver of a flat leaf that is no input is its module's.
    own_driver : (s : Spot) (m : TypedModule) (d : DrivenModule) (names : List ℕ) (leads : Way s.path s.within m d names) (c : Component) (leaf : TypeLeaf) → slice_get (module_leaves m) s.number ≡ Some (c, leaf) → is_input (role_of (c, leaf)) ≡ false
        → (o : Option Ground) (driver : Ground) → IsFlatDriver driven spots s o → o ≡ Some driver
        → (numbers : List ℕ) × AreNumbers driven spots s.path s.within numbers × (g : Ground) × (driver_in d s.number ≡ Some g) × (with_numbers (slice_index numbers) g ≡ driver)
    own_driver s m d names leads c leaf at plain o driver (by_its_module gl there numbers plainly are) e =
        let same : there.m ≡ d = some_same (sym there.found ∙ (leads_known fitted well lowered is driven expanded leads).driven_there) in
        let g = mapped (with_numbers (slice_index numbers)) (driver_in there.m s.number) driver e in
        (numbers, are, g.0, ap (λ (z : DrivenModule). driver_in z s.number) (sym same) ∙ g.1, g.2)
    own_driver s m d names leads c leaf at plain o driver (by_its_holder gl path numbers i n holder gi there input way at' found inst are) e = absurd (true≢false (sym input ∙ input_is s m d names leads c leaf at gl there ∙ plain))
    own_driver s m d names leads c leaf at plain o driver (given gl there input way) e = none_some e

    -- The driver of an input of an instance is its holder's.
    holder_driver : (s : Spot) (m : TypedModule) (d : DrivenModule) (names : List ℕ) (leads : Way s.path s.within m d names) (p : Component) (part : TypeLeaf) → slice_get (module_leaves m) s.number ≡ Some (p, part) → is_input (role_of (p, part)) ≡ true
        → (path : List ℕ) (i k : ℕ) (holder : DrivenModule) (gi : GroundInstance) → s.path ≡ i ∷ path → paths.module_at driven path ≡ Some k → slice_get driven.modules k ≡ Some holder → slice_get holder.instances i ≡ Some gi
        → (o : Option Ground) (driver : Ground) → IsFlatDriver driven spots s o → o ≡ Some driver
        → (numbers : List ℕ) × AreNumbers driven spots path k numbers × (g : Ground) × (driver_in holder (gi.first + s.number) ≡ Some g) × (with_numbers (slice_index numbers) g ≡ driver)
    holder_driver s m d names leads p part at is_in path i k holder gi way number found inst o driver (by_its_module gl there numbers plainly are) e =
        absurd (true≢false (sym is_in ∙ (sym (input_is s m d names leads p part at gl there) ∙ plainly)))
    holder_driver s m d names leads p part at is_in path i k holder gi way number found inst o driver (by_its_holder gl path' numbers i' k' holder' gi' there input way' number' found' inst' are) e =
        let heads_same : i' ≡ i = head_same (sym way' ∙ way) in
        let tails_same : path' ≡ path = tail_same (sym way' ∙ way) in
        let number_same : k' ≡ k = some_same (sym number' ∙ (ap (paths.module_at driven) tails_same ∙ number)) in
        let holder_same : holder' ≡ holder = some_same (sym found' ∙ (ap (slice_get driven.modules) number_same ∙ found)) in
        let gi_same : gi' ≡ gi = some_same (sym inst' ∙ (ap₂ (λ (z : DrivenModule) w. slice_get z.instances w) holder_same heads_same ∙ inst)) in
        let g = mapped (with_numbers (slice_index numbers)) (driver_in holder' (gi'.first + s.number)) driver e in (
          numbers,
          subst (λ z. AreNumbers driven spots path z numbers) number_same (subst (λ z. AreNumbers driven spots z k' numbers) tails_same are),
          g.0,
          ap₂ (λ (z : DrivenModule) (w : GroundInstance). driver_in z (w.first + s.number)) (sym holder_same) (sym gi_same) ∙ g.1,
          g.2,
        )
      where
        head_same : {a b : ℕ} {p q : List ℕ} → a ∷ p ≡ b ∷ q → a ≡ b
        head_same e = cc

        tail_same : {a b : ℕ} {p q : List ℕ} → a ∷ p ≡ b ∷ q → p ≡ q
        tail_same e = cc
    holder_driver s m d names leads p part at is_in path i k holder gi way number found inst o driver (given gl there input way') e = none_some e

    -- Driven leaves

    abbrev left : TypedModule → List ℕ → Component → TypeLeaf → Option ℤ
    left m path c leaf = tree_drives.drives (scene_of m path run) (leaf_of c leaf) c.declaration.block

    left_of : (leaf : TypeLeaf) (m m' : TypedModule) (path path' : List ℕ) (c c' : Component) → m' ≡ m → path' ≡ path → c' ≡ c → left m' path' c' leaf ≡ left m path c leaf
    left_of leaf m m' path path' c c' a b e = ap (λ z. left z path' c' leaf) a ∙ (ap (λ z. left m z c' leaf) b ∙ ap (λ z. left m path z leaf) e)

    module _ (path : List ℕ) (m : TypedModule) (c : Component) (leaf : TypeLeaf) (stands : Stands design path m c leaf) (is_set_here : is_driven c leaf ≡ true) (left_some : IsSome (left m path c leaf)) where
      own_flat : (path : List ℕ) (m : TypedModule) (c : Component) (leaf : TypeLeaf) → component_named m c.declaration.name ≡ Some c → target_in c.declaration.sort ≡ None
          → flat m path (leaf_of c leaf) ≡ record { path = path; component = c.declaration.name; way = leaf.path }
      own_flat path m c leaf declared none =
          ap (λ o. flat_through path c.declaration.name o leaf.path) (ap (option_and_then (λ x. target_in x.declaration.sort)) declared ∙ none)
          ∙ flat_none path c.declaration.name leaf.path

      -- the entry of a leaf, where it is told of by another
      entry_here : (path : List ℕ) (m : TypedModule) (c : Component) (leaf : TypeLeaf) → Stands design path m c leaf → target_in c.declaration.sort ≡ None → (x : ℕ) (y : Standing) → slice_get (all_leaves placed) x ≡ Some y
          → flat m path (leaf_of c leaf) ≡ flat_of y → slice_get (all_leaves placed) x ≡ Some (record { path = path; m = m; c = c }, leaf)
      entry_here path m c leaf stands none x y e same =
          let entry = lists.own path m c leaf stands none in
          let x_same = lists.once entry.0 x (record { path = path; m = m; c = c }, leaf) y entry.1 e (sym (own_flat path m c leaf stands.declared none) ∙ same) in
          ap (slice_get (all_leaves placed)) (sym x_same) ∙ entry.1

      module _ (x : ℕ) (y : Standing) (e : slice_get (all_leaves placed) x ≡ Some y) (same : flat m path (leaf_of c leaf) ≡ flat_of y) (o : Option Ground) (driver : Ground) (of_spot : (s : Spot) → slice_get spots x ≡ Some s → IsFlatDriver driven spots s o) (has : o ≡ Some driver) where
        own_left : target_in c.declaration.sort ≡ None → left m path c leaf ≡ Some (integer_of (value driver instant))
        own_left none =
            let here = entry_here path m c leaf stands none x y e same in
            let back = two_back match x (record { path = path; m = m; c = c }, leaf) here in
            let s : Spot = back.0 in
            let it = back.2 in
            let r = own_driver s m it.d path it.leads c leaf it.number (set_not_input c leaf (driven_source c leaf is_set_here)) o driver (of_spot s back.1) has in
            driven_value it.leads r.0 r.1 s.number c leaf r.2 it.number (driven_set c leaf is_set_here) r.3 left_some ∙ ap (λ z. Some (integer_of (value z instant))) r.4

        module _ (target : ℕ) (at_target : target_in c.declaration.sort ≡ Some target) where
          from_behind : (s : Spot) → IsFlatDriver driven spots s o → (n : TypedModule) (p : Component) (part : TypeLeaf) → slice_get (module_leaves n) s.number ≡ Some (p, part) → is_port p.declaration.sort ≡ true
              → is_source (flow_of p.declaration.sort part.flip) ≡ true → is_clock part ≡ false → leaf.path ≡ step.Field p.declaration.name ∷ part.path
              → (sp : List ℕ) (w : ℕ) (dd : DrivenModule) (nn : List ℕ) → Way sp w n dd nn → sp ≡ s.path → w ≡ s.within → nn ≡ path ++ c.declaration.name ∷ [] → left m path c leaf ≡ Some (integer_of (value driver instant))
          from_behind s flat_driver n p part number port source clock way sp w dd nn (at_main main d at known) same_path same_within same_names = no_snoc path (c.declaration.name) same_names where
            no_snoc : {B : Type 0} (xs : List ℕ) (a : ℕ) → [] ≡ xs ++ a ∷ [] → B
            no_snoc [] a e = absurd cc
            no_snoc (x ∷ xs) a e = absurd cc
          from_behind s flat_driver n p part number port source clock way sp w dd nn (behind {path = front} {n = k} {m = m'} {d = holder} {names = outer} i at target' ci gi _ child leads' part' there' placed' named' at' known') same_path same_within same_names =
              let split = snoc_same outer path ci.declaration.name c.declaration.name same_names in
              let m_same : m' ≡ m = some_same (sym (leads_at fitted well lowered is driven expanded leads') ∙ (ap (module_at design) split.0 ∙ stands.reached)) in
              let component = instance_place m'.components i at ci target' part' in
              let declared' : component_named m' ci.declaration.name ≡ Some ci = well.bundles.names outer m' ci (leads_at fitted well lowered is driven expanded leads') (in_list m'.components at ci component.0) in
              let c_same : ci ≡ c = some_same (sym declared' ∙ (ap₂ component_named m_same split.1 ∙ stands.declared)) in
              let bundle = well.bundles.instances outer m' ci target' (leads_at fitted well lowered is driven expanded leads') declared' (target_sort ci.declaration.sort target' component.1) in
              let n_same : bundle.0 ≡ n = some_same (sym bundle.1 ∙ named') in
              let first = ports_first fitted well (outer ++ ci.declaration.name ∷ []) n at' in
              let inner = inner_leaf n first s.number p part number (port_below n first s.number p part number port) in
              let there_leaf : slice_get (leaves c.typ) s.number ≡ Some inner.leaf =
              ap (λ (z : Component). slice_get (leaves z.typ) s.number) (sym c_same) ∙ (ap (λ l. slice_get l s.number) (bundle.2 ∙ ap (λ (z : TypedModule). leaves (instance_of (typed_ports z))) n_same) ∙ inner.there) in
              let listed = place_of (leaves c.typ) leaf stands.listed in
              let place_same : s.number ≡ listed.0 =
              (known_module fitted well path m stands.reached).typed.ways c s.number listed.0 inner.leaf leaf (component_found m c.declaration.name c stands.declared).1 there_leaf listed.1 (inner.way ∙ sym way) in
              let leaf_at : slice_get (leaves ci.typ) s.number ≡ Some leaf = ap₂ (λ (z : Component) w. slice_get (leaves z.typ) w) c_same place_same ∙ listed.1 in
              let leaf_there : slice_get (module_leaves m') (leaves_before m' at + s.number) ≡ Some (ci, leaf) = leaf_behind m'.components at ci s.number leaf component.0 leaf_at in
              let leads_s : Way s.path s.within n child (outer ++ ci.declaration.name ∷ []) =
              subst (λ z. Way z s.within n child (outer ++ ci.declaration.name ∷ [])) same_path (subst (λ z. Way (i ∷ front) z n child (outer ++ ci.declaration.name ∷ [])) same_within
              (behind i at target' ci gi n child leads' part' there' placed' named' at' known')) in
              let r = holder_driver s n child (outer ++ ci.declaration.name ∷ []) leads_s p part number (port_input p part port source clock) front i k holder gi (sym same_path)
              (leads_number leads') (leads_known fitted well lowered is driven expanded leads').driven_there there' o driver flat_driver has in
              let number_there : slice_get (module_leaves m') (gi.first + s.number) ≡ Some (ci, leaf) = ap (λ z. slice_get (module_leaves m') (z + s.number)) placed'.first ∙ leaf_there in
              let set' : is_set (ci, leaf) ≡ true = ap (λ (z : Component). is_set (z, leaf)) c_same ∙ driven_set c leaf is_set_here in
              let same_left = left_of leaf m m' path outer c ci m_same split.0 c_same in
              sym same_left ∙ (driven_value leads' r.0 r.1 (gi.first + s.number) ci leaf r.2 number_there set' r.3 (ap is_some same_left ∙ left_some) ∙ ap (λ z. Some (integer_of (value z instant))) r.4)

          instance_left : left m path c leaf ≡ Some (integer_of (value driver instant))
          instance_left =
              let sort : c.declaration.sort ≡ An_instance target = instance_sort c.declaration.sort target at_target in
              let in_ = instance_inside design well.bundles path m c leaf target stands sort in
              let n : TypedModule = in_.0 in
              let p : Component = in_.1 in
              let part : TypeLeaf = in_.2 in
              let inner = in_.3 in
              let port : is_port p.declaration.sort ≡ true = in_.4 in
              let turned : leaf.flip ≡ true = turned_of leaf.flip (ap (λ z. is_source (flow_of z leaf.flip)) (sym sort) ∙ driven_source c leaf is_set_here) in
              let names : List ℕ = path ++ c.declaration.name ∷ [] in
              let here = entry_here names n p part inner (port_target p.declaration.sort port) x y e (sym (one_leaf path m n c p leaf part target stands.declared sort inner.declared port in_.6) ∙ same) in
              let back = two_back match x (record { path = names; m = n; c = p }, part) here in
              let s : Spot = back.0 in
              let it = back.2 in
              from_behind s (of_spot s back.1) n p part it.number port (in_.5 ∙ turned) (sym in_.7 ∙ driven_clock c leaf is_set_here) in_.6 s.path s.within it.d names it.leads refl refl refl
            where
              turned_of : (flip : Bool) → is_source (flow_of (An_instance target) flip) ≡ false → flip ≡ true
              turned_of true e = refl
              turned_of false e = absurd (true≢false e)

        -- What the statements leave in a driven leaf is what its driver has.
        pub left_in_leaf : left m path c leaf ≡ Some (integer_of (value driver instant))
        left_in_leaf = by (target_in c.declaration.sort) refl where
          by : (t : Option ℕ) → target_in c.declaration.sort ≡ t → left m path c leaf ≡ Some (integer_of (value driver instant))
          by None q = own_left q
          by (Some target) q = instance_left target q

    -- Nodes

    module _ (x : ℕ) (y : Standing) (e : Expr) (k : ℕ) (o : Option Ground) (driver : Ground) (there : slice_get (all_leaves placed) x ≡ Some y) (sort : y.0.c.declaration.sort ≡ A_node e) (clock : is_clock y.1 ≡ false) (kth : slice_get (leaves y.0.c.typ) k ≡ Some y.1)
        (of_spot : (s : Spot) → slice_get spots x ≡ Some s → IsFlatDriver driven spots s o) (has : o ≡ Some driver) where
      module _ (s : Spot) (d : DrivenModule) (leads : Way s.path s.within y.0.m d y.0.path) (number : slice_get (module_leaves y.0.m) s.number ≡ Some (y.0.c, y.1)) (numbers : List ℕ) (are : AreNumbers driven spots s.path s.within numbers) (g : Ground) (driver_there : driver_in d s.number ≡ Some g) where
        abbrev seen_inner : Instant
        seen_inner = seen_by (slice_index numbers) instant

        node_left : slice_get (map integer_of (tree.value e (scene_of y.0.m y.0.path run))) k ≡ Some (integer_of (value (with_numbers (slice_index numbers) g) instant))
        node_left =
            let K = leads_known fitted well lowered is driven expanded leads in
            let at = leads_at fitted well lowered is driven expanded leads in
            let it = known_module fitted well y.0.path y.0.m at in
            let among : Contains y.0.m.components y.0.c = component_among s.number number in
            let typed = it.typed.nodes y.0.c e among sort in
            let f = (scene_at y.0.m seen_inner).integers in
            let h = local y.0.m y.0.path run in
            let counted = module_counted it.holder y.0.m it.typed e _ typed in
            let shapes_k = map_at leaf_shape (leaves y.0.c.typ) k y.1 kth in
            let mentioned = item (tree_reads.mentions e (type_in y.0.m)) k (subst (λ z. k < z) (sym counted) (below_length (map leaf_shape (leaves y.0.c.typ)) k (leaf_shape y.1) shapes_k)) in
            let agree = seen_agree fitted well lowered is driven expanded spots placed match lists leads numbers are instant mentioned.0
            (λ z c. let r = (K.ground_is.node_reads s.number (y.0.c, y.1) e k mentioned.0 number sort clock kth mentioned.1).all z c in (r.0, r.1)) in
            let same : slice_get (tree.value e (scene_with (type_in y.0.m) f)) k ≡ slice_get (tree.value e (scene_with (type_in y.0.m) h)) k = each_same (tracked e (type_in y.0.m) f h) k mentioned.0 mentioned.1 agree in
            let values = module_values it.holder y.0.m it.typed e _ typed h in
            let v = from_map_at shape_of_value (tree.value e (scene_with (type_in y.0.m) h)) k (leaf_shape y.1) (ap (λ l. slice_get l k) values ∙ shapes_k) in
            let left_is = K.ground_is.nodes s.number (y.0.c, y.1) e k seen_inner number sort clock kth (inner_fits fitted well lowered is driven expanded spots placed match lists leads numbers are instant fits) in
            let w = mapped integer_of (drives seen_inner s.number K.g.body) (integer_of v.0) (left_is ∙ get-map' integer_of (tree.value e (scene_with (type_in y.0.m) f)) k v.0 (same ∙ v.1)) in
            get-map' integer_of (tree.value e (scene_with (type_in y.0.m) h)) k v.0 v.1 ∙ ap Some (sym w.2 ∙ driver_has leads numbers are s.number g w.0 driver_there w.1)
          where
            component_among : (j : ℕ) → slice_get (module_leaves y.0.m) j ≡ Some (y.0.c, y.1) → Contains y.0.m.components y.0.c
            component_among j e = from_leaves y.0.m.components j e where
              from_leaves : (cs : List Component) (j : ℕ) → slice_get (flat_map leaves_of cs) j ≡ Some (y.0.c, y.1) → Contains cs y.0.c
              from_leaves [] j e = none_some e
              from_leaves (b ∷ cs) j e = ⊎_elim
                  (λ here. let q = from_map_at (λ x. (b, x)) (leaves b.typ) j (y.0.c, y.1) here in (0, omega arith, ap (λ (x : ModuleLeaf). x.0) q.2))
                  (λ there. later b cs y.0.c (from_leaves cs there.0 there.2))
                  (in_append (leaves_of b) (flat_map leaves_of cs) j (y.0.c, y.1) (subst (λ l. slice_get l j ≡ Some (y.0.c, y.1)) (flat_map-cons leaves_of b cs) e))

      -- The value of a node's expression is what its leaf's driver has.
      pub node_in_leaf : slice_get (map integer_of (tree.value e (scene_of y.0.m y.0.path run))) k ≡ Some (integer_of (value driver instant))
      node_in_leaf =
          let back = two_back match x y there in
          let s : Spot = back.0 in
          let it = back.2 in
          let r = own_driver s y.0.m it.d y.0.path it.leads y.0.c y.1 it.number (plain_not_input y.0.c y.1 (ap is_port sort)) o driver (of_spot s back.1) has in
          node_left s it.d it.leads it.number r.0 r.1 r.2 r.3 ∙ ap (λ z. Some (integer_of (value z instant))) r.4
