-- The ports of the flat circuit's memories have the leaves that they need.
use Rattle.std.proofs.Common.{◌≡◌, ℕ, ◌<◌, ◌&&◌, Bool, true, false, not, List, [], ◌∷◌, length, Option, Some, None, refl, sym, ap, ap₂, ◌∙◌, subst, true≢false}
use Rattle.std.specs.Prelude.{is_some}
use Rattle.std.specs.List.{slice_get}
use Rattle.fir_types.specs.declared.fir_type.Field.{Field}
use Rattle.fir_types.specs.declared.leaf.TypeLeaf.{TypeLeaf}
use Rattle.fir_types.specs.declared.leaf.PathStep.TheVariants as step
use Rattle.fir_types.specs.declared.memory.Memory.{Memory}
use Rattle.fir_types.specs.declared.memory.PortMode.{PortMode}
use Rattle.fir_types.specs.declared.memory.PortMode.TheVariants as mode
use Rattle.fir_types.specs.Leaves.{leaves}
use Rattle.fir_types.specs.Memories.{depth_of}
use Rattle.fir_types.specs.Bundles.{plain_field, flipped_field, uint_at, mask_of, address_bits, addr_name, en_name, wmode_name}
use Rattle.fir_meaning.specs.Components.{is_clock, flow_of}
use Rattle.fir_meaning.specs.MemoryPorts.{MemoryPort, memory_ports, written_field, mask_field}
use Rattle.fir_meaning.specs.States.{is_port, is_register, is_source}
use Rattle.ground_net.specs.declared.circuit.GroundMemory.{GroundMemory}
use Rattle.ground_net.specs.declared.circuit.GroundRole.TheVariants.{Plain}
use Rattle.ground_net.specs.declared.net.NetPort.{NetPort}
use Rattle.ground_net.specs.declared.net.NetRead.{NetRead}
use Rattle.ground_net.specs.declared.net.NetWrite.{NetWrite}
use Rattle.ground_net.specs.Shapes.{shaped}
use Rattle.net_of_circuit.specs.FlatOrder.{Placed, Standing}
use Rattle.net_of_circuit.specs.NetOf.{Names, NameAll, IsPortOf, may_write, may_read, has_mode, read_field}
use Rattle.net_of_circuit.specs.Numbers.{role_of}
use Rattle.memory_ports.specs.Sound.{IsUInt, IsPlain, AreData, IsPortIn}
use Rattle.net_laws.proofs.Lists.{below_length}
use Rattle.lowering_laws.proofs.Heights.{some_same, none_some}
use Rattle.lowering_laws.proofs.Parts.{item}
use Rattle.lowering_laws.proofs.Whole.{Setting, lists, leaf_at}
use Rattle.lowering_laws.proofs.Drivers.{all, role_is}
use Rattle.lowering_laws.proofs.Reading.{plain_role}
use Rattle.assembly_laws.proofs.Bundles.{fields_of, twice, uint_leaves, uint_shape, mask_leaf, read_there, written_there, mask_there, mode_there}
use Rattle.assembly_laws.proofs.Shaped.{table_at}
use Rattle.assembly_laws.proofs.Stored.{Held, held, listed_at, module_is, among, unflipped, port_of, named_leaf}

-- Modes

both_modes : (md : PortMode) → may_write md ≡ true → may_read md ≡ true → has_mode md ≡ true
both_modes mode.Reader w r = absurd (true≢false (sym w))
both_modes mode.Writer w r = absurd (true≢false (sym r))
both_modes mode.ReadWriter w r = refl

mode_both : (md : PortMode) → has_mode md ≡ true → (may_write md ≡ true) × (may_read md ≡ true)
mode_both mode.Reader e = absurd (true≢false (sym e))
mode_both mode.Writer e = absurd (true≢false (sym e))
mode_both mode.ReadWriter e = (refl, refl)

-- what is there is allowed
pub allowed : {A : Type 0} (b : Bool) (o : Option A) (x : A) → (b ≡ false → o ≡ None) → o ≡ Some x → b ≡ true
allowed true o x h e = refl
allowed false o x h e = none_some (sym (h refl) ∙ e)

module _ (z : Setting) (memory : GroundMemory) (b : Placed × Memory) (h : Held z memory b) (q : ℕ) (np : NetPort) (port : MemoryPort) (port_there : slice_get (memory_ports b.1) q ≡ Some port) (of : IsPortOf (all z) b.0 b.1 h.element port np) where
  uint_is : (i id width x : ℕ) → slice_get (fields_of h.element (depth_of b.1) port) i ≡ Some (plain_field port.place id (uint_at port.place width)) → Names (all z) b.0 (step.Field port.name ∷ step.Field id ∷ []) x → IsUInt z.flat width x
  uint_is i id width x field names =
      let f : Field = plain_field port.place id (uint_at port.place width) in
      let l : TypeLeaf = record { path = []; flip = false; typ = uint_at port.place width } in
      let there : slice_get (leaves f.typ) 0 ≡ Some l = ap (λ ls. slice_get ls 0) (uint_leaves port.place width) in
      table_at z x (b.0, twice port.name f l) (named_leaf z memory b h h.at h.stands q i 0 port f l port_there field there x names) ∙ ap Some (uint_shape (twice port.name f l) width refl)

  data_are : (i : ℕ) (f : Field) (numbers : List ℕ) → slice_get (fields_of h.element (depth_of b.1) port) i ≡ Some f → f.typ ≡ h.element → NameAll (all z) b.0 port.name f.name.id h.element numbers → AreData z.flat memory numbers
  data_are i f numbers field typ names = record {
    counted = names.counted ∙ sym h.of.counted;
    shapes = λ k x element e g.
        let l = item (leaves h.element) k (subst (λ n. k < n) h.of.counted (below_length memory.elements k element g)) in
        let there : slice_get (leaves f.typ) k ≡ Some l.0 = ap (λ t. slice_get (leaves t) k) typ ∙ l.1 in
        let kept = h.of.elements k l.0 element l.1 g in
        table_at z x (b.0, twice port.name f l.0) (named_leaf z memory b h h.at h.stands q i k port f l.0 port_there field there x (names.each k x l.0 e l.1)) ∙ ap₂ (λ u w. Some (shaped u w)) (sym kept.0) (sym kept.1);
  }

  masks_are : (i : ℕ) (numbers : List ℕ) → slice_get (fields_of h.element (depth_of b.1) port) i ≡ Some (plain_field port.place (mask_field port.mode) (mask_of h.element)) → NameAll (all z) b.0 port.name (mask_field port.mode) h.element numbers
      → (length numbers ≡ length memory.elements) × ((k x : ℕ) → slice_get numbers k ≡ Some x → IsUInt z.flat 1 x)
  masks_are i numbers field names = (
    names.counted ∙ sym h.of.counted,
    λ k x e.
        let f : Field = plain_field port.place (mask_field port.mode) (mask_of h.element) in
        let l = item (leaves h.element) k (subst (λ n. k < n) names.counted (below_length numbers k x e)) in
        let m = mask_leaf h.element k l.0 l.1 in
        let named : Names (all z) b.0 (step.Field port.name ∷ step.Field f.name.id ∷ m.mask.path) x = subst (λ way. Names (all z) b.0 (step.Field port.name ∷ step.Field f.name.id ∷ way) x) (sym m.way) (names.each k x l.0 e l.1) in
        table_at z x (b.0, twice port.name f m.mask) (named_leaf z memory b h h.at h.stands q i k port f m.mask port_there field m.there x named) ∙ ap Some (uint_shape (twice port.name f m.mask) 1 m.bit),
  )

  -- data that are read are plain leaves
  plain_is : (numbers : List ℕ) → may_read port.mode ≡ true → NameAll (all z) b.0 port.name (read_field port.mode) h.element numbers → (k x : ℕ) → slice_get numbers k ≡ Some x → IsPlain z.flat x
  plain_is numbers may names k x e =
      let f : Field = flipped_field port.place (read_field port.mode) h.element in
      let l = item (leaves h.element) k (subst (λ n. k < n) names.counted (below_length numbers k x e)) in
      let y : Standing = (b.0, twice port.name f l.0) in
      let there = named_leaf z memory b h h.at h.stands q 3 k port f l.0 port_there (read_there h.element (depth_of b.1) port port.mode refl may) l.1 x (names.each k x l.0 e l.1) in
      let L = lists z in
      let stands = (L.stands x y there).0 in
      let source : y.1.flip ≡ false = ap (λ flip. not (not flip)) (unflipped z memory b h k l.0 l.1) in
      let clock : is_clock y.1 ≡ false = (module_is z memory b h).typed.read_data b.0.c b.1 y.1 (among z memory b h) h.sort stands.listed source in
      let role : role_of (b.0.c, y.1) ≡ Plain = role_is b.0.c y.1 false false false clock (ap is_register h.sort) (ap (λ w. w && is_source (flow_of b.0.c.declaration.sort y.1.flip)) (ap is_port h.sort)) in
      let at = leaf_at z x y there in
      record { leaf = at.leaf; there = at.leaf_there; is = plain_role z x y there role }

  abbrev Masked : List ℕ → Type 0
  Masked numbers = (length numbers ≡ length memory.elements) × ((k x : ℕ) → slice_get numbers k ≡ Some x → IsUInt z.flat 1 x)

  pub port_sound : IsPortIn z.flat memory np
  port_sound = record {
    addr = (address_bits (depth_of b.1), uint_is 0 addr_name (address_bits (depth_of b.1)) np.addr refl of.addr);
    en = uint_is 1 en_name 1 np.en refl of.en;
    mode = λ x e.
        let has = allowed (has_mode port.mode) np.mode x of.no_mode e in
        let m = of.mode has in
        subst (IsUInt z.flat 1) (some_same (sym m.1 ∙ e)) (uint_is 4 wmode_name 1 m.0 (mode_there h.element (depth_of b.1) port port.mode refl has) m.2);
    both = λ write read e g.
        let m = of.mode (both_modes port.mode (allowed (may_write port.mode) np.write write of.no_write e) (allowed (may_read port.mode) np.read read of.no_read g)) in
        ap is_some m.1;
    of_both = λ x e.
        let may = mode_both port.mode (allowed (has_mode port.mode) np.mode x of.no_mode e) in
        (ap is_some (of.write may.0).1, ap is_some (of.read may.1).1);
    written = λ write e.
        let may = allowed (may_write port.mode) np.write write of.no_write e in
        let w = of.write may in
        let field = written_there h.element (depth_of b.1) port port.mode refl may in
        subst (λ (u : NetWrite). AreData z.flat memory u.leaves) (some_same (sym w.1 ∙ e)) (data_are field.0 (plain_field port.place (written_field port.mode) h.element) w.0.leaves field.1 refl w.2);
    masks = λ write e.
        let may = allowed (may_write port.mode) np.write write of.no_write e in
        let w = of.write may in
        let field = mask_there h.element (depth_of b.1) port port.mode refl may in
        subst (λ (u : NetWrite). Masked u.masks) (some_same (sym w.1 ∙ e)) (masks_are field.0 w.0.masks field.1 w.3);
    read = λ read e.
        let may = allowed (may_read port.mode) np.read read of.no_read e in
        let r = of.read may in
        subst (λ (u : NetRead). AreData z.flat memory u.leaves) (some_same (sym r.1 ∙ e))
        (data_are 3 (flipped_field port.place (read_field port.mode) h.element) r.0.leaves (read_there h.element (depth_of b.1) port port.mode refl may) refl r.2);
    plain = λ read e k x g.
        let may = allowed (may_read port.mode) np.read read of.no_read e in
        let r = of.read may in
        plain_is r.0.leaves may r.2 k x (ap (λ (u : NetRead). slice_get u.leaves k) (some_same (sym r.1 ∙ e)) ∙ g);
  }

-- Each port of each memory has the leaves that it needs.
pub ports_sound : (z : Setting) (m q : ℕ) (memory : GroundMemory) (np : NetPort) → slice_get z.flat.memories m ≡ Some memory → slice_get memory.ports q ≡ Some np → IsPortIn z.flat memory np
ports_sound z m q memory np there e =
    let b = listed_at z m memory there in
    let h = held z m memory b.0 there b.1 in
    let port = port_of z memory b.0 h q np e in
    port_sound z memory b.0 h q np port.0 port.1 port.2
