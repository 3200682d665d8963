-- The clauses of reads and registers of the net of a circuit, where the net is that of the flat circuit.
use Rattle.std.proofs.Common.{◌≡◌, ℕ, ◌<◌, ◌&&◌, true, false, List, [], ◌∷◌, ◌++◌, take, length, Option, Some, None, option_map, refl, sym, ap, ap₂, ◌∙◌, subst, arith, ⊎_elim, inl, inr}
use Rattle.std.specs.Prelude.{Contains, ◌⊎◌}
use Rattle.std.specs.List.{slice_get, range_with_len}
use Rattle.std.proofs.lemmas.List.FromFn.{length-range_with_len}
use Rattle.bit_words.specs.Values.{integer_of}
use Rattle.fir_types.specs.declared.fir_type.FirType.{FirType}
use Rattle.fir_types.specs.declared.memory.Memory.{Memory}
use Rattle.fir_meaning.specs.Components.{FlatLeaf, A_memory, flow_of}
use Rattle.fir_meaning.specs.Values.{scene_of}
use Rattle.fir_meaning.specs.Loops.{ReadsLeaf, TakesFrom}
use Rattle.fir_meaning.specs.States.{State, is_port, is_register, is_source}
use Rattle.fir_meaning.specs.States as tree_states
use Rattle.ground_net.specs.declared.ground.Ground.{Ground}
use Rattle.ground_net.specs.declared.circuit.GroundLeaf.{GroundLeaf}
use Rattle.ground_net.specs.declared.circuit.GroundRole.{GroundRole}
use Rattle.ground_net.specs.declared.circuit.GroundRole.TheVariants.{Input, Clock, Register, Plain}
use Rattle.ground_net.specs.declared.net.Leaf.{Leaf}
use Rattle.ground_net.specs.declared.net.Role.TheVariants as role
use Rattle.ground_net.specs.declared.net.Net.{Net}
use Rattle.ground_net.specs.declared.net.NetRegister.{NetRegister}
use Rattle.ground_net.specs.Grounds.{Instant}
use Rattle.ground_net.specs.Reads.{Reads, driver_of, read_of, read_by}
use Rattle.ground_net.specs.Cones.{register_needs, mentioned_by, mentioned_by_reset}
use Rattle.ground_net.specs.Shapes.{HasShapes, shaped}
use Rattle.ground_net.specs.Cycles.{NetState, instant_of, driven_or, after_reset}
use Rattle.ground_net.specs.Cycles as cycle
use Rattle.ground_net.specs.Nets.{table_of, leaf_shape}
use Rattle.net_of_circuit.specs.FlatOrder.{Standing, flat_of}
use Rattle.net_of_circuit.specs.NetOf.{Driven, part_of, IsSeen, seen_valuation}
use Rattle.net_of_circuit.specs.Numbers.{role_of}
use Rattle.flatten_instances.specs.Flat.{role_at}
use Rattle.memory_ports.specs.declared.reads.ReadData.{ReadData}
use Rattle.memory_ports.specs.Placing.{IsPlaced, data_in, driver_for, own_driver, role_behind, parts_of}
use Rattle.memory_ports.specs.Placing as placing
use Rattle.net_laws.proofs.Lists.{below_length}
use Rattle.lowering_laws.proofs.Parts.{item}
use Rattle.lowering_laws.proofs.Matching.{map_counted}
use Rattle.lowering_laws.proofs.Seeing.{Fits}
use Rattle.lowering_laws.proofs.Whole.{Setting, design, spots, placed, match, lists, leaf_at}
use Rattle.lowering_laws.proofs.Drivers.{all, flat_driver, role_is}
use Rattle.lowering_laws.proofs.Reading as flat_reads
use Rattle.lowering_laws.proofs.Reading.{HasRead, IsPortRead}
use Rattle.lowering_laws.proofs.Registers.{register_at, is_of_register, register_clock, next_same}
use Rattle.lowering_laws.proofs.Taking as taking

nothing : {A : Type 0} {B : Type 0} (x : A) → Contains [] x → B
nothing x (k, below, is) = absurd (omega arith)

register_stays : (path : List ℕ) (r : GroundRole) → r ≡ Register → role_at path r ≡ Register
register_stays [] r e = e
register_stays (i ∷ path) r e = ap (role_at (i ∷ path)) e

module _ (z : Setting) (net : Net) (is : IsPlaced z.flat net) where
  -- what a leaf shows of what ports read
  pub shown_at : (x : ℕ) (leaf : GroundLeaf) → slice_get z.flat.leaves x ≡ Some leaf → (shown : Option ReadData) × (slice_get (data_in z.flat) x ≡ Some shown)
  shown_at x leaf e =
      item (data_in z.flat) x (subst (λ n. x < n) (sym (map_counted _ (range_with_len 0 (length z.flat.leaves)) ∙ length-range_with_len 0 (length z.flat.leaves))) (below_length z.flat.leaves x leaf e))

  -- the leaf of the net
  pub net_leaf : (x : ℕ) (leaf : GroundLeaf) → slice_get z.flat.leaves x ≡ Some leaf → (new : Leaf) × (slice_get net.leaves x ≡ Some new)
  net_leaf x leaf e = item net.leaves x (subst (λ n. x < n) (sym is.counted) (below_length z.flat.leaves x leaf e))

  -- What is seen of the net in range shows each leaf of the circuit in its kind and width.
  pub fits_seen : (instant : Instant) → HasShapes (table_of net) instant → Fits z.fitted z.well z.lowered z.is z.driven z.expanded (spots z) (placed z) (match z) (lists z) instant
  fits_seen instant shapes x y there =
      let at = leaf_at z x y there in
      let new = net_leaf x at.leaf at.leaf_there in
      let of = is.leaves x at.leaf new.0 at.leaf_there new.1 in
      shapes.leaf x (leaf_shape new.0) (ap (option_map leaf_shape) new.1) ∙ ap₂ shaped (of.kind ∙ at.kind) (of.width ∙ at.width)

  -- Registers

  flat_there : (n : ℕ) (register : NetRegister) → slice_get net.registers n ≡ Some register → slice_get z.flat.registers n ≡ Some register
  flat_there n register e = ap (λ l. slice_get l n) (sym is.registers) ∙ e

  -- a register has the flat circuit's driver
  register_has : (n : ℕ) (register : NetRegister) (y : Standing) → slice_get net.registers n ≡ Some register → slice_get (all z) register.leaf ≡ Some y → driver_of net register.leaf ≡ flat_driver z register.leaf
  register_has n register y e there =
      let L = lists z in
      let held = is_of_register z register y (register_at z n register (flat_there n register e) y there) in
      let stands = (L.stands register.leaf y there).0 in
      let clock = register_clock z y.0.path y.0.m y.0.c y.1 stands held in
      let at = leaf_at z register.leaf y there in
      let shown = shown_at register.leaf at.leaf at.leaf_there in
      let is_held : at.leaf.role ≡ Register =
      at.role ∙ register_stays at.s.path (role_of (y.0.c, y.1)) (role_is y.0.c y.1 false true (is_port y.0.c.declaration.sort && is_source (flow_of y.0.c.declaration.sort y.1.flip)) clock held refl) in
      is.drivers register.leaf at.leaf shown.0 at.leaf_there shown.1 ∙ ap (λ r. driver_for r shown.0 (own_driver z.flat register.leaf)) is_held

  -- What a register holds next.
  pub registers : (elements : List FirType) (n : ℕ) (register : NetRegister) (y : Standing) (s : State) (t : NetState) (rho : cycle.Valuation) → slice_get net.registers n ≡ Some register
      → slice_get (all z) register.leaf ≡ Some y → IsSeen (placed z) elements net s t rho
      → tree_states.next_of_register (scene_of y.0.m y.0.path (seen_valuation (placed z) net t rho)) y.0.c y.0.c.declaration.sort y.1.path (integer_of (rho register.leaf))
      ≡ cycle.next_of_register net (instant_of net t rho) (Some register) (integer_of (rho register.leaf))
  registers elements n register y s t rho e there seen =
      next_same z (instant_of net t rho) (fits_seen (instant_of net t rho) seen.shapes) n register y (flat_there n register e) there
      ∙ sym (ap (λ o. after_reset (driven_or (integer_of (rho register.leaf)) (instant_of net t rho) o) (instant_of net t rho) register.reset) (register_has n register y e there))

  -- What the edge takes for a register.
  pub takes : (n k : ℕ) (register : NetRegister) (y w : Standing) → slice_get net.registers n ≡ Some register → slice_get (all z) register.leaf ≡ Some y → slice_get (all z) k ≡ Some w → part_of w ≡ Driven
      → Contains (register_needs net register) k → TakesFrom (design z) (flat_of y) (flat_of w)
  takes n k register y w e there w_there part h =
      taking.only_takes z n register y (flat_there n register e) there k w w_there part (subst (λ o. Contains (mentioned_by o ++ mentioned_by_reset register.reset) k) (register_has n register y e there) h)

  pub all_takes : (n : ℕ) (register : NetRegister) (y : Standing) (f : FlatLeaf) → slice_get net.registers n ≡ Some register → slice_get (all z) register.leaf ≡ Some y
      → TakesFrom (design z) (flat_of y) f → (k : ℕ) × (w : Standing) × (slice_get (all z) k ≡ Some w) × (flat_of w ≡ f) × Contains (register_needs net register) k
  all_takes n register y f e there t =
      let r = taking.all_takes z n register y (flat_there n register e) there f t in
      (r.0, r.1, r.2, r.3, subst (λ o. Contains (mentioned_by o ++ mentioned_by_reset register.reset) r.0) (sym (register_has n register y e there)) r.4)

  -- Reads of a leaf that shows no read of a memory

  module _ (x : ℕ) (y : Standing) (there : slice_get (all z) x ≡ Some y) (no_read : slice_get (data_in z.flat) x ≡ Some None) where
    -- A leaf of the net reads what the circuit's does.
    pub reads : ((memory : Memory) → y.0.c.declaration.sort ≡ A_memory memory → y.1.flip ≡ false → ⊥) → (k : ℕ) (w : Standing) → slice_get (all z) k ≡ Some w → Reads net x k → ReadsLeaf (design z) (flat_of y) (flat_of w)
    reads no_data k w w_there h =
        let at = leaf_at z x y there in
        let new = net_leaf x at.leaf at.leaf_there in
        let role_was = is.roles x at.leaf None new.0 at.leaf_there no_read new.1 in
        by at.leaf at.leaf_there at.leaf.role refl
        (subst (λ d. Contains (read_by (role_behind before (placing.part_of at.leaf.role None)) d) k) (is.drivers x at.leaf None at.leaf_there no_read)
        (subst (λ r. Contains (read_by r (driver_of net x)) k) role_was (subst (λ o. Contains (read_of o (slice_get net.drivers x)) k) new.1 h)))
      where
        before : List placing.Part
        before = take x (parts_of z.flat.leaves (data_in z.flat))

        driven : (leaf : GroundLeaf) → slice_get z.flat.leaves x ≡ Some leaf → leaf.role ≡ Plain → (o : Option Ground) → flat_driver z x ≡ o → Contains (read_by role.Assigned o) k → ReadsLeaf (design z) (flat_of y) (flat_of w)
        driven leaf e q None d c = nothing k c
        driven leaf e q (Some driver) d c = flat_reads.only_reads z x k y w leaf driver there w_there e q no_data d c

        by : (leaf : GroundLeaf) → slice_get z.flat.leaves x ≡ Some leaf → (r : GroundRole) → leaf.role ≡ r → Contains (read_by (role_behind before (placing.part_of r None)) (driver_for r None (flat_driver z x))) k → ReadsLeaf (design z) (flat_of y) (flat_of w)
        by leaf e Input q c = nothing k c
        by leaf e Clock q c = nothing k c
        by leaf e Register q c = nothing k c
        by leaf e Plain q c = driven leaf e q (flat_driver z x) refl c

    reads_it : (f : FlatLeaf) → HasRead z x f → (k : ℕ) × (w : Standing) × (slice_get (all z) k ≡ Some w) × (flat_of w ≡ f) × Reads net x k
    reads_it f r =
        let new = net_leaf x r.leaf r.leaf_there in
        let assigned : new.0.role ≡ role.Assigned =
        is.roles x r.leaf None new.0 r.leaf_there no_read new.1 ∙ ap (λ g. role_behind (take x (parts_of z.flat.leaves (data_in z.flat))) (placing.part_of g None)) r.role in
        let has : driver_of net x ≡ Some r.driver = is.drivers x r.leaf None r.leaf_there no_read ∙ (ap (λ g. driver_for g None (own_driver z.flat x)) r.role ∙ r.driver_there) in
        let all_of = ap (λ o. read_of o (slice_get net.drivers x)) new.1 ∙ (ap (λ g. read_by g (driver_of net x)) assigned ∙ ap (read_by role.Assigned) has) in
        (r.k, r.w, r.there, r.is, subst (λ l. Contains l r.k) (sym all_of) r.mentioned)

    -- What the circuit's leaf reads, the net's does, but for what a read of latency 0 goes by.
    pub all_reads : (f : FlatLeaf) → ReadsLeaf (design z) (flat_of y) f → ((k : ℕ) × (w : Standing) × (slice_get (all z) k ≡ Some w) × (flat_of w ≡ f) × Reads net x k) ⊎ IsPortRead z y f
    all_reads f r = ⊎_elim (λ h. inl (reads_it f h)) (λ h. inr h) (flat_reads.all_reads z x y f there r)
