-- What each leaf of the net reads is what the circuit's leaf does, both ways, where the data that leaves show are those of the circuit's memories.
use Rattle.std.proofs.Common.{◌≡◌, ℕ, ◌&&◌, false, List, [], ◌∷◌, take, Option, Some, None, sym, ap, ◌∙◌, subst, arith, ⊎_elim}
use Rattle.std.specs.Prelude.{Contains}
use Rattle.std.specs.List.{slice_get}
use Rattle.fir_types.specs.declared.fir_type.FirType.{FirType}
use Rattle.fir_types.specs.declared.leaf.PathStep.{PathStep}
use Rattle.fir_types.specs.declared.leaf.PathStep.TheVariants as step
use Rattle.fir_types.specs.declared.memory.Memory.{Memory}
use Rattle.fir_types.specs.Memories.{read_latency_of}
use Rattle.fir_meaning.specs.Components.{FlatLeaf, A_memory, flow_of, is_clock}
use Rattle.fir_meaning.specs.MemoryPorts.{MemoryPort, port_named}
use Rattle.fir_meaning.specs.Loops.{ReadsLeaf}
use Rattle.fir_meaning.specs.States.{is_port, is_register, is_source}
use Rattle.fir_meaning.proofs.Ports.{component_found}
use Rattle.circuit_laws.proofs.Reached.{known_module}
use Rattle.ground_net.specs.declared.circuit.GroundRole.{GroundRole}
use Rattle.ground_net.specs.declared.circuit.GroundRole.TheVariants.{Plain}
use Rattle.ground_net.specs.declared.net.Net.{Net}
use Rattle.ground_net.specs.declared.net.NetPort.{NetPort}
use Rattle.ground_net.specs.Reads.{Reads, direct_reads, driver_of, read_of, read_by}
use Rattle.net_of_circuit.specs.FlatOrder.{Standing, flat_of}
use Rattle.net_of_circuit.specs.NetOf.{IsPortOf}
use Rattle.memory_ports.specs.declared.reads.ReadData.{ReadData}
use Rattle.memory_ports.specs.declared.reads.ReadData.TheVariants as read_data
use Rattle.memory_ports.specs.Placing.{IsPlaced, data_in, load_of, driver_for, role_behind, parts_of}
use Rattle.memory_ports.specs.Placing as placing
use Rattle.lowering_laws.proofs.Whole.{Setting, design, lists, leaf_at}
use Rattle.lowering_laws.proofs.Drivers.{all, flat_driver, role_is}
use Rattle.lowering_laws.proofs.Reading.{IsPortRead, data_reads, plain_role}
use Rattle.lowering_laws.proofs.Loads.{load_only, load_all, memory_same}
use Rattle.lowering_laws.proofs.Nets as nets

nothing : {A : Type 0} {B : Type 0} (x : A) → Contains [] x → B
nothing x (k, below, is) = absurd (omega arith)

module _ (z : Setting) where
  -- The data that an entry shows: none where it is no read data of a memory; captured data of a late read; and else the load of its port.
  pub data Shows (x : ℕ) (y : Standing) : Type 0 where
    no_read : slice_get (data_in z.flat) x ≡ Some None → ((memory : Memory) → y.0.c.declaration.sort ≡ A_memory memory → y.1.flip ≡ false → ⊥) → Shows x y
    late_read : (memory : Memory) → y.0.c.declaration.sort ≡ A_memory memory → y.1.flip ≡ false → (read_latency_of memory ≡ 0 → ⊥) → slice_get (data_in z.flat) x ≡ Some (Some read_data.Captured) → Shows x y
    load_read : (memory : Memory) (port : MemoryPort) (name field : ℕ) (way : List PathStep) (element : FirType) (np : NetPort) (m k : ℕ) → y.0.c.declaration.sort ≡ A_memory memory → y.1.flip ≡ false → read_latency_of memory ≡ 0
        → y.1.path ≡ step.Field name ∷ step.Field field ∷ way → port_named memory name ≡ Some port → IsPortOf (all z) y.0 memory element port np
        → slice_get (data_in z.flat) x ≡ Some (Some (read_data.Load (load_of m k np))) → Shows x y

  -- read data are plain leaves
  data_plain : (x : ℕ) (y : Standing) (there : slice_get (all z) x ≡ Some y) (memory : Memory) → y.0.c.declaration.sort ≡ A_memory memory → y.1.flip ≡ false → (leaf_at z x y there).leaf.role ≡ Plain
  data_plain x y there memory sort turned =
      let L = lists z in
      let stands = (L.stands x y there).0 in
      let it = known_module z.fitted z.well y.0.path y.0.m stands.reached in
      let clock : is_clock y.1 ≡ false = it.typed.read_data y.0.c memory y.1 (component_found y.0.m y.0.c.declaration.name y.0.c stands.declared).1 sort stands.listed turned in
      plain_role z x y there (role_is y.0.c y.1 false false false clock (ap is_register sort) (ap (λ a. a && is_source (flow_of y.0.c.declaration.sort y.1.flip)) (ap is_port sort)))

  module _ (net : Net) (is : IsPlaced z.flat net) (x : ℕ) (y : Standing) (there : slice_get (all z) x ≡ Some y) where
    abbrev before : List placing.Part
    before = take x (parts_of z.flat.leaves (data_in z.flat))

    abbrev role_there : GroundRole
    role_there = (leaf_at z x y there).leaf.role

    -- what the leaf of the net reads
    reads_are : (shown : Option ReadData) → slice_get (data_in z.flat) x ≡ Some shown
        → direct_reads net x ≡ read_by (role_behind before (placing.part_of role_there shown)) (driver_for role_there shown (flat_driver z x))
    reads_are shown shows =
        let at = leaf_at z x y there in
        let new = nets.net_leaf z net is x at.leaf at.leaf_there in
        ap (λ o. read_of o (slice_get net.drivers x)) new.1
        ∙ (ap (λ g. read_by g (driver_of net x)) (is.roles x at.leaf shown new.0 at.leaf_there shows new.1)
        ∙ ap (read_by (role_behind before (placing.part_of role_there shown))) (is.drivers x at.leaf shown at.leaf_there shows))

    -- those of read data
    data_are : (memory : Memory) → y.0.c.declaration.sort ≡ A_memory memory → y.1.flip ≡ false → (shows : ReadData) → slice_get (data_in z.flat) x ≡ Some (Some shows)
        → direct_reads net x ≡ read_by (role_behind before (placing.part_of Plain (Some shows))) (driver_for Plain (Some shows) (flat_driver z x))
    data_are memory sort turned shows e =
        reads_are (Some shows) e ∙ ap (λ r. read_by (role_behind before (placing.part_of r (Some shows))) (driver_for r (Some shows) (flat_driver z x))) (data_plain x y there memory sort turned)

    -- What a leaf of the net reads, the circuit's leaf reads.
    pub reads : Shows x y → (k : ℕ) (w : Standing) → slice_get (all z) k ≡ Some w → Reads net x k → ReadsLeaf (design z) (flat_of y) (flat_of w)
    reads (no_read shows no_data) k w w_there h = nets.reads z net is x y there shows no_data k w w_there h
    reads (late_read memory sort turned late shows) k w w_there h = nothing k (subst (λ l. Contains l k) (data_are memory sort turned read_data.Captured shows) h)
    reads (load_read memory port name field way element np m i sort turned latency path named of shows) k w w_there h =
        load_only z x y there memory sort latency turned name field way path port named element np of m i k w w_there (subst (λ l. Contains l k) (data_are memory sort turned (read_data.Load (load_of m i np)) shows) h)

    -- What the circuit's leaf reads, the leaf of the net reads.
    pub all_reads : Shows x y → (f : FlatLeaf) → ReadsLeaf (design z) (flat_of y) f → (k : ℕ) × (w : Standing) × (slice_get (all z) k ≡ Some w) × (flat_of w ≡ f) × Reads net x k
    all_reads (no_read shows no_data) f r = ⊎_elim (λ h. h) (λ h. by_port h) (nets.all_reads z net is x y there shows f r) where
      by_port : IsPortRead z y f → (k : ℕ) × (w : Standing) × (slice_get (all z) k ≡ Some w) × (flat_of w ≡ f) × Reads net x k
      by_port h = absurd (no_data h.memory h.sort h.source)
    all_reads (late_read memory sort turned late shows) f r =
        let h = data_reads z x y f there memory sort turned r in
        absurd (late (ap read_latency_of (sym (memory_same h.memory memory (sym h.sort ∙ sort))) ∙ h.latency))
    all_reads (load_read memory port name field way element np m i sort turned latency path named of shows) f r =
        let h = data_reads z x y f there memory sort turned r in
        let j = load_all z x y there memory sort latency turned name field way path port named element np of m i f h in
        (j.0, j.1, j.2, j.3, subst (λ l. Contains l j.0) (sym (data_are memory sort turned (read_data.Load (load_of m i np)) shows)) j.4)
