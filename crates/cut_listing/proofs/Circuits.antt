-- Two nets of one circuit have the same sinks, and these the same cones.
use Rattle.std.proofs.Common.{◌≡◌, ℕ, zero, suc, ◌<◌, Bool, true, false, List, [], ◌∷◌, ◌++◌, length, map, take, Option, Some, None, option_map, refl, sym, ap, ap₂, ◌∙◌, subst, arith, ⊎_elim, slice_get, slice_index, if◌then◌else◌}
use Rattle.std.specs.Prelude.{Contains, filter_map, sum_by}
use Rattle.std.specs.List.{range_with_len, cons_option}
use Rattle.std.proofs.lemmas.List.{length-map, get_or-map}
use Rattle.std.proofs.lemmas.List.Elements.{Contains-append_left, Contains-append_right, Contains-append_cases}
use Rattle.std.proofs.lemmas.Option.{slice_get_within, get_or_from_slice_get}
use Rattle.fir_types.specs.declared.fir_type.FirType.{FirType}
use Rattle.fir_types.specs.declared.leaf.PathStep.{PathStep}
use Rattle.fir_types.specs.declared.leaf.PathStep.TheVariants as step
use Rattle.fir_types.specs.declared.memory.Memory.{Memory}
use Rattle.fir_types.specs.declared.memory.PortMode.{PortMode}
use Rattle.fir_types.specs.declared.memory.PortMode.TheVariants as mode
use Rattle.fir_types.specs.Leaves.{leaves}
use Rattle.fir_tree.specs.LeafNames.{Texts}
use Rattle.fir_meaning.specs.Components.{Design, ports_bundle}
use Rattle.fir_meaning.specs.MemoryPorts.{MemoryPort, memory_ports, written_field, mask_field}
use Rattle.fir_meaning.proofs.Ports.{from_map, from_flat_map}
use Rattle.fir_meaning.proofs.Tracking.{Contains-map, Contains-flat_map}
use Rattle.fir_meaning.proofs.Settling.{get_there, get-map}
use Rattle.ground_net.specs.declared.net.Net.{Net}
use Rattle.ground_net.specs.declared.net.Leaf.{Leaf}
use Rattle.ground_net.specs.declared.net.NetRegister.{NetRegister}
use Rattle.ground_net.specs.declared.net.NetMemory.{NetMemory}
use Rattle.ground_net.specs.declared.net.NetPort.{NetPort}
use Rattle.ground_net.specs.declared.net.PortLeaf.{PortLeaf}
use Rattle.ground_net.specs.declared.net.Role.{Role}
use Rattle.ground_net.specs.declared.net.Role.TheVariants as role
use Rattle.ground_net.specs.Cones.{Sink, A_watched, A_register, A_memory, sinks, needs, needs_of_register, needs_of_memory, register_needs, memory_needs, port_needs, reads_need, or_no_leaf, InCone, needed as by_need, behind as by_reads}
use Rattle.ground_net.specs.Reads.{IsAssigned, Reads}
use Rattle.ground_net.specs.Watching.{is_shown, port_leaf, told_where}
use Rattle.ground_net.specs.Nets.{IsNet}
use Rattle.net_of_circuit.specs.FlatOrder.{Placed, Standing, all_leaves, all_memories, flat_of, ListsLeaves}
use Rattle.net_of_circuit.specs.NetOf.{Part, Given, Without_value, Held, Driven, part_of_role, Names, NameAll, IsPortOf, IsMemoryOf, IsNetOf, IsNetWith, may_write, may_read, has_mode}
use Rattle.net_laws.specs.Serves.{Serves}
use Rattle.net_laws.proofs.Numbers.{some_same, none_some, below_length}
use Rattle.net_laws.proofs.FlatOrders.{one_placed}
use Rattle.cone_cutter.specs.Cuts.{InConeOf}
use Rattle.cone_cutter.proofs.Lists.{none_in, first_in, later_in, cons_cases, Pairs}
use Rattle.cone_cutter.proofs.Assembly.{cone_assigned}
use Rattle.cut_listing.specs.CircuitCuts.{watch, StandOnce}
use Rattle.cut_listing.proofs.Sorted.{same_sorted}
use Rattle.cut_listing.proofs.Sinks.{sinks_same}
use Rattle.cut_listing.proofs.Elements.{IsWide, element_way}

-- Lists

item : {A : Type 0} (xs : List A) (k : ℕ) → k < length xs → (x : A) × (slice_get xs k ≡ Some x)
item [] k h = absurd (omega arith)
item (x ∷ xs) zero h = (x, refl)
item (x ∷ xs) (suc k) h = item xs k (omega arith)

later_item : {A : Type 0} (y : A) (xs : List A) (x : A) → Contains xs x → Contains (y ∷ xs) x
later_item y xs x (k, below, is) = (suc k, omega arith, is)

among : {A : Type 0} (xs : List A) (k : ℕ) (x : A) → slice_get xs k ≡ Some x → Contains xs x
among [] k x e = none_some e
among (y ∷ xs) zero x e = (0, omega arith, some_same e)
among (y ∷ xs) (suc k) x e = later_item y xs x (among xs k x e)

map_same : {A : Type 0} (h : A → ℕ) (xs ys : List A) → length xs ≡ length ys → ((k : ℕ) (x y : A) → slice_get xs k ≡ Some x → slice_get ys k ≡ Some y → h x ≡ h y) → map h xs ≡ map h ys
map_same h [] [] e each = refl
map_same h [] (y ∷ ys) e each = absurd (omega arith)
map_same h (x ∷ xs) [] e each = absurd (omega arith)
map_same h (x ∷ xs) (y ∷ ys) e each = ap₂ (λ n ns. n ∷ ns) (each 0 x y refl refl) (map_same h xs ys (omega arith) (λ k. each (suc k)))

-- Roles

as_held : (r : Role) → part_of_role r ≡ Held → (n : ℕ) × (r ≡ role.Register n)
as_held (role.Input n) e = absurd cc
as_held role.Clock e = absurd cc
as_held role.Assigned e = absurd cc
as_held (role.Register n) e = (n, refl)
as_held (role.Captured n) e = absurd cc

as_driven : (r : Role) → part_of_role r ≡ Driven → r ≡ role.Assigned
as_driven (role.Input n) e = absurd cc
as_driven role.Clock e = absurd cc
as_driven role.Assigned e = refl
as_driven (role.Register n) e = absurd cc
as_driven (role.Captured n) e = absurd cc

abbrev shown : Part → Bool
shown Given = false
shown Without_value = false
shown _ = true

shown_by_part : (r : Role) → is_shown r ≡ shown (part_of_role r)
shown_by_part (role.Input n) = refl
shown_by_part role.Clock = refl
shown_by_part role.Assigned = refl
shown_by_part (role.Register n) = refl
shown_by_part (role.Captured n) = refl

told_alike : (x : ℕ) (b : Bool) (leaf other : Leaf) → option_map (λ (p : PortLeaf). p.leaf) (if b then Some (port_leaf x leaf) else None) ≡ option_map (λ (p : PortLeaf). p.leaf) (if b then Some (port_leaf x other) else None)
told_alike x true leaf other = refl
told_alike x false leaf other = refl

numbers_cons : (o q : Option PortLeaf) (xs ys : List PortLeaf) → option_map (λ (p : PortLeaf). p.leaf) o ≡ option_map (λ (p : PortLeaf). p.leaf) q → map (λ (p : PortLeaf). p.leaf) xs ≡ map (λ (p : PortLeaf). p.leaf) ys
    → map (λ (p : PortLeaf). p.leaf) (cons_option o xs) ≡ map (λ (p : PortLeaf). p.leaf) (cons_option q ys)
numbers_cons (Some a) (Some b) xs ys e h = ap₂ (λ n ns. n ∷ ns) (some_same e) h
numbers_cons (Some a) None xs ys e h = none_some (sym e)
numbers_cons None (Some b) xs ys e h = none_some e
numbers_cons None None xs ys e h = h

numbers_same : (f g : ℕ → Option PortLeaf) → ((x : ℕ) → option_map (λ (p : PortLeaf). p.leaf) (f x) ≡ option_map (λ (p : PortLeaf). p.leaf) (g x)) → (xs : List ℕ)
    → map (λ (p : PortLeaf). p.leaf) (filter_map f xs) ≡ map (λ (p : PortLeaf). p.leaf) (filter_map g xs)
numbers_same f g h [] = refl
numbers_same f g h (x ∷ xs) = numbers_cons (f x) (g x) (filter_map f xs) (filter_map g xs) (h x) (numbers_same f g h xs)

-- Fields

wide_written : (md : PortMode) → IsWide (written_field md)
wide_written mode.Reader = record { addr = λ e. omega arith; en = λ e. omega arith; clk = λ e. omega arith; wmode = λ e. omega arith }
wide_written mode.Writer = record { addr = λ e. omega arith; en = λ e. omega arith; clk = λ e. omega arith; wmode = λ e. omega arith }
wide_written mode.ReadWriter = record { addr = λ e. omega arith; en = λ e. omega arith; clk = λ e. omega arith; wmode = λ e. omega arith }

wide_mask : (md : PortMode) → IsWide (mask_field md)
wide_mask mode.Reader = record { addr = λ e. omega arith; en = λ e. omega arith; clk = λ e. omega arith; wmode = λ e. omega arith }
wide_mask mode.Writer = record { addr = λ e. omega arith; en = λ e. omega arith; clk = λ e. omega arith; wmode = λ e. omega arith }
wide_mask mode.ReadWriter = record { addr = λ e. omega arith; en = λ e. omega arith; clk = λ e. omega arith; wmode = λ e. omega arith }

-- what the numbers of a port that writes have
through : (x y : ℕ) (ms a b c d : List ℕ) → ((z : ℕ) → Contains a z → Contains c z) → ((z : ℕ) → Contains b z → Contains d z) → (z : ℕ) → Contains (x ∷ y ∷ ms ++ (a ++ b)) z → Contains (x ∷ y ∷ ms ++ (c ++ d)) z
through x y ms a b c d f g z h = ⊎_elim (λ e. first_in x (y ∷ ms ++ (c ++ d)) z e)
    (λ r. later_in x (y ∷ ms ++ (c ++ d)) z (⊎_elim (λ e. first_in y (ms ++ (c ++ d)) z e)
    (λ s. later_in y (ms ++ (c ++ d)) z (⊎_elim (λ l. Contains-append_left ms (c ++ d) z l)
    (λ t. Contains-append_right ms (c ++ d) z (⊎_elim (λ l. Contains-append_left c d z (f z l)) (λ u. Contains-append_right c d z (g z u)) (Contains-append_cases a b z t)))
    (Contains-append_cases ms (a ++ b) z s)))
    (cons_cases y (ms ++ (a ++ b)) z r)))
    (cons_cases x (y ∷ ms ++ (a ++ b)) z h)

module _ (design : Design) (placed : List Placed) (lists : ListsLeaves design placed) where
  -- Names
  names_one : (p : Placed) (way : List PathStep) (x z : ℕ) → Names (all_leaves placed) p way x → Names (all_leaves placed) p way z → x ≡ z
  names_one p way x z a b = lists.once x z (p, a.leaf) (p, b.leaf) a.there b.there (ap (λ w. record { path = p.path; component = p.c.declaration.name; way = w }) (a.is ∙ sym b.is))

  module _ (p : Placed) (memory : Memory) (element other : FirType) (bundle : leaves p.c.typ ≡ leaves (ports_bundle memory other)) where
    all_in : (port field : ℕ) (numbers others : List ℕ) → IsWide field → NameAll (all_leaves placed) p port field element numbers → NameAll (all_leaves placed) p port field other others → (z : ℕ) → Contains numbers z → Contains others z
    all_in port field numbers others wide a b z c =
        let l = item (leaves element) c.0 (omega (arith, c.1, a.counted)) in
        let n = a.each c.0 z l.0 (get_there numbers z c) l.1 in
        let listed = (lists.stands z (p, n.leaf) n.there).0.listed in
        let w = element_way memory other n.leaf port field l.0.path wide (subst (λ ls. Contains ls n.leaf) bundle listed) n.is in
        let o = item others w.1.0 (omega (arith, w.1.1, b.counted)) in
        let m = b.each w.1.0 o.0 w.0 o.1 (get_there (leaves other) w.0 w.1) in
        let same : o.0 ≡ z = names_one p (step.Field port ∷ step.Field field ∷ l.0.path) o.0 z (subst (λ v. Names (all_leaves placed) p (step.Field port ∷ step.Field field ∷ v) o.0) w.2 m) n in
        subst (Contains others) same (among others w.1.0 o.0 o.1)

    module _ (port : MemoryPort) (np op : NetPort) (a : IsPortOf (all_leaves placed) p memory element port np) (b : IsPortOf (all_leaves placed) p memory other port op) where
      addr_same : np.addr ≡ op.addr
      addr_same = names_one p _ np.addr op.addr a.addr b.addr

      en_same : np.en ≡ op.en
      en_same = names_one p _ np.en op.en a.en b.en

      mode_same : np.mode ≡ op.mode
      mode_same = by (has_mode port.mode) refl where
        by : (h : Bool) → has_mode port.mode ≡ h → np.mode ≡ op.mode
        by false q = a.no_mode q ∙ sym (b.no_mode q)
        by true q = let x = a.mode q in let y = b.mode q in x.1 ∙ (ap Some (names_one p _ x.0 y.0 x.2 y.2) ∙ sym y.1)

      in_writer : may_write port.mode ≡ true → (z : ℕ) → Contains (port_needs np np.write) z → Contains (port_needs op op.write) z
      in_writer q z c =
          let w = a.write q in
          let v = b.write q in
          let moved = through np.addr np.en (or_no_leaf np.mode) w.0.leaves w.0.masks v.0.leaves v.0.masks
          (all_in port.name (written_field port.mode) w.0.leaves v.0.leaves (wide_written port.mode) w.2 v.2)
          (all_in port.name (mask_field port.mode) w.0.masks v.0.masks (wide_mask port.mode) w.3 v.3) z
          (subst (λ o. Contains (port_needs np o) z) w.1 c) in
          subst (λ o. Contains (port_needs op o) z) (sym v.1)
          (subst (λ x. Contains (x ∷ op.en ∷ or_no_leaf op.mode ++ (v.0.leaves ++ v.0.masks)) z) addr_same
          (subst (λ x. Contains (np.addr ∷ x ∷ or_no_leaf op.mode ++ (v.0.leaves ++ v.0.masks)) z) en_same
          (subst (λ x. Contains (np.addr ∷ np.en ∷ or_no_leaf x ++ (v.0.leaves ++ v.0.masks)) z) mode_same moved)))

      in_reader : may_write port.mode ≡ false → may_read port.mode ≡ true → (z : ℕ) → Contains (port_needs np np.write) z → Contains (port_needs op op.write) z
      in_reader q r z c =
          let u = a.read r in
          let v = b.read r in
          let here = subst (λ o. Contains (reads_need np o) z) u.1 (subst (λ o. Contains (port_needs np o) z) (a.no_write q) c) in
          subst (λ o. Contains (port_needs op o) z) (sym (b.no_write q))
          (subst (λ o. Contains (reads_need op o) z) (sym v.1)
          (subst (λ x. Contains (if v.0.captured then x ∷ op.en ∷ [] else []) z) addr_same
          (subst (λ x. Contains (if v.0.captured then np.addr ∷ x ∷ [] else []) z) en_same
          (subst (λ k. Contains (if k then np.addr ∷ np.en ∷ [] else []) z) (u.3 ∙ sym v.3) here))))

      in_port : (z : ℕ) → Contains (port_needs np np.write) z → Contains (port_needs op op.write) z
      in_port z c = by port.mode refl where
        by : (md : PortMode) → port.mode ≡ md → Contains (port_needs op op.write) z
        by mode.Reader q = in_reader (ap may_write q) (ap may_read q) z c
        by mode.Writer q = in_writer (ap may_write q) z c
        by mode.ReadWriter q = in_writer (ap may_write q) z c

  in_memory : (texts : Texts) (p : Placed) (memory : Memory) (element other : FirType) (nm om : NetMemory) → IsMemoryOf texts placed p memory element nm → IsMemoryOf texts placed p memory other om
      → (z : ℕ) → Contains (memory_needs nm) z → Contains (memory_needs om) z
  in_memory texts p memory element other nm om a b z c =
      let f = from_flat_map (λ (port : NetPort). port_needs port port.write) nm.ports z c in
      let port = item (memory_ports memory) f.1.0 (omega (arith, f.1.1, a.all_ports)) in
      let o = item om.ports f.1.0 (omega (arith, f.1.1, a.all_ports, b.all_ports)) in
      Contains-flat_map (λ (port : NetPort). port_needs port port.write) om.ports o.0 z (among om.ports f.1.0 o.0 o.1)
      (in_port p memory element other b.is_element.bundle port.0 f.0 o.0 (a.ports f.1.0 port.0 f.0 port.1 (get_there nm.ports f.0 f.1)) (b.ports f.1.0 port.0 o.0 port.1 o.1) z f.2)

  module _ (texts : Texts) (net other : Net) (es fs : List FirType) (well : IsNet net) (formed : IsNet other) (is : IsNetWith texts design placed es net) (of : IsNetWith texts design placed fs other) where
    entry : (x : ℕ) (leaf : Leaf) → slice_get net.leaves x ≡ Some leaf → (y : Standing) × (slice_get (all_leaves placed) x ≡ Some y)
    entry x leaf e = item (all_leaves placed) x (omega (arith, below_length net.leaves x leaf e, is.counted))

    leaf_other : (x : ℕ) (leaf : Leaf) → slice_get net.leaves x ≡ Some leaf → (l : Leaf) × (slice_get other.leaves x ≡ Some l) × (part_of_role l.role ≡ part_of_role leaf.role)
    leaf_other x leaf e =
        let y = entry x leaf e in
        let l = item other.leaves x (omega (arith, below_length net.leaves x leaf e, is.counted, of.counted)) in
        (l.0, l.1, (of.leaves_are x y.0 l.0 y.1 l.1).part ∙ sym (is.leaves_are x y.0 leaf y.1 e).part)

    assigned_same : (x : ℕ) → IsAssigned net.leaves x → IsAssigned other.leaves x
    assigned_same x a = let o = leaf_other x a.leaf a.there in record { leaf = o.0; there = o.1; is = as_driven o.0.role (o.2 ∙ ap part_of_role a.is) }

    reads_same : (x z : ℕ) → IsAssigned net.leaves x → IsAssigned net.leaves z → Reads net x z → Reads other x z
    reads_same x z a b r =
        let y = entry x a.leaf a.there in
        let w = entry z b.leaf b.there in
        let o = of.all_reads x y.0 (flat_of w.0) y.1 (is.reads x z y.0 w.0 y.1 w.1 r) in
        subst (λ v. Reads other x v) (lists.once o.0 z o.1 w.0 o.2 w.1 o.3) o.4

    -- the registers' leaves
    register_in : (x : ℕ) → Contains (map (λ (r : NetRegister). r.leaf) net.registers) x → Contains (map (λ (r : NetRegister). r.leaf) other.registers) x
    register_in x c =
        let r = from_map (λ (r : NetRegister). r.leaf) net.registers x c in
        let has = well.register_leaves r.1.0 r.0 (get_there net.registers r.0 r.1) in
        let o = leaf_other r.0.leaf has.leaf has.there in
        let h = as_held o.0.role (o.2 ∙ ap part_of_role has.is) in
        let k = formed.registers r.0.leaf h.0 (record { leaf = o.0; there = o.1; is = h.1 }) in
        subst (Contains (map (λ (r : NetRegister). r.leaf) other.registers)) (k.2 ∙ r.2) (Contains-map (λ (r : NetRegister). r.leaf) other.registers k.0 (among other.registers h.0 k.0 k.1))

    registers_rise : Pairs (λ a b. a < b) (map (λ (r : NetRegister). r.leaf) net.registers)
    registers_rise i j less lt =
        let long = length-map net.registers (λ (r : NetRegister). r.leaf) in
        let a = item net.registers i (omega arith) in
        let b = item net.registers j (omega arith) in
        let up = well.registers_rise i j a.0 b.0 less a.1 b.1 in
        omega (arith, up, at i a.0 a.1, at j b.0 b.1)
      where
        at : (k : ℕ) (r : NetRegister) → slice_get net.registers k ≡ Some r → slice_index (map (λ (r : NetRegister). r.leaf) net.registers) k ≡ r.leaf
        at k r e = get_or-map (λ (r : NetRegister). r.leaf) net.registers k r 0 (slice_get_within net.registers k r e) ∙ ap (λ (r : NetRegister). r.leaf) (get_or_from_slice_get net.registers k r r e)

    -- the memories
    before_same : StandOnce placed → map (λ (m : NetMemory). m.before) net.memories ≡ map (λ (m : NetMemory). m.before) other.memories
    before_same stand = map_same (λ (m : NetMemory). m.before) net.memories other.memories (is.all_memories_there ∙ sym of.all_memories_there) (λ m nm om e f.
        let lt = below_length net.memories m nm e in
        let pm = item (all_memories placed) m (omega (arith, lt, is.all_memories_there)) in
        let el = item es m (omega (arith, lt, is.all_memories_there, is.all_elements_there)) in
        let fl = item fs m (omega (arith, lt, is.all_memories_there, of.all_elements_there)) in
        let u = is.memories m pm.0.0 pm.0.1 el.0 nm pm.1 el.1 e in
        let v = of.memories m pm.0.0 pm.0.1 fl.0 om pm.1 fl.1 f in
        u.before ∙ (ap (λ n. sum_by (λ q. length (leaves q.c.typ)) (take n placed)) (stand u.at v.at pm.0.0 u.stands v.stands) ∙ sym v.before))

    -- the watched leaves
    told_same : (x : ℕ) → option_map (λ (p : PortLeaf). p.leaf) (told_where is_shown x (slice_get net.leaves x)) ≡ option_map (λ (p : PortLeaf). p.leaf) (told_where is_shown x (slice_get other.leaves x))
    told_same x = by (slice_get net.leaves x) (slice_get other.leaves x) refl refl where
      by : (o q : Option Leaf) → slice_get net.leaves x ≡ o → slice_get other.leaves x ≡ q → option_map (λ (p : PortLeaf). p.leaf) (told_where is_shown x o) ≡ option_map (λ (p : PortLeaf). p.leaf) (told_where is_shown x q)
      by (Some leaf) (Some l) e f =
          let y = entry x leaf e in
          let same : is_shown leaf.role ≡ is_shown l.role =
          shown_by_part leaf.role ∙ (ap shown ((is.leaves_are x y.0 leaf y.1 e).part ∙ sym (of.leaves_are x y.0 l y.1 f).part) ∙ sym (shown_by_part l.role)) in
          told_alike x (is_shown leaf.role) leaf l ∙ ap (λ b. option_map (λ (p : PortLeaf). p.leaf) (if b then Some (port_leaf x l) else None)) same
      by (Some leaf) None e f = let o = leaf_other x leaf e in none_some (sym f ∙ o.1)
      by None (Some l) e f = let o = item net.leaves x (omega (arith, below_length other.leaves x l f, is.counted, of.counted)) in none_some (sym e ∙ o.1)
      by None None e f = refl

    watch_same : watch net ≡ watch other
    watch_same = numbers_same (λ x. told_where is_shown x (slice_get net.leaves x)) (λ x. told_where is_shown x (slice_get other.leaves x)) told_same (range_with_len 0 net.ports)
        ∙ ap (λ n. map (λ (p : PortLeaf). p.leaf) (filter_map (λ x. told_where is_shown x (slice_get other.leaves x)) (range_with_len 0 n))) (is.ports ∙ sym of.ports)

    -- needs
    in_register : map (λ (r : NetRegister). r.leaf) net.registers ≡ map (λ (r : NetRegister). r.leaf) other.registers → (n z : ℕ) → IsAssigned net.leaves z
        → (o : Option NetRegister) → slice_get net.registers n ≡ o → Contains (needs_of_register net o) z → Contains (needs_of_register other (slice_get other.registers n)) z
    in_register same n z a None e c = absurd (none_in z c)
    in_register same n z a (Some r) e c =
        let has = well.register_leaves n r e in
        let y = entry r.leaf has.leaf has.there in
        let w = entry z a.leaf a.there in
        let t = is.takes n z r y.0 w.0 e y.1 w.1 (sym (is.leaves_are z w.0 a.leaf w.1 a.there).part ∙ ap part_of_role a.is) c in
        let o = item other.registers n (omega (arith, below_length net.registers n r e, ap length same, length-map net.registers (λ (r : NetRegister). r.leaf), length-map other.registers (λ (r : NetRegister). r.leaf))) in
        let leaf_is : r.leaf ≡ o.0.leaf = some_same (sym (ap (option_map (λ (r : NetRegister). r.leaf)) e) ∙ (sym (get-map (λ (r : NetRegister). r.leaf) net.registers n)
        ∙ (ap (λ l. slice_get l n) same ∙ (get-map (λ (r : NetRegister). r.leaf) other.registers n ∙ ap (option_map (λ (r : NetRegister). r.leaf)) o.1)))) in
        let k = of.all_takes n o.0 y.0 (flat_of w.0) o.1 (subst (λ x. slice_get (all_leaves placed) x ≡ Some y.0) leaf_is y.1) t in
        subst (λ q. Contains (needs_of_register other q) z) (sym o.1) (subst (Contains (register_needs other o.0)) (lists.once k.0 z k.1 w.0 k.2 w.1 k.3) k.4)

    in_memory_at : (m z : ℕ) (o : Option NetMemory) → slice_get net.memories m ≡ o → Contains (needs_of_memory o) z → Contains (needs_of_memory (slice_get other.memories m)) z
    in_memory_at m z None e c = absurd (none_in z c)
    in_memory_at m z (Some nm) e c =
        let lt = below_length net.memories m nm e in
        let pm = item (all_memories placed) m (omega (arith, lt, is.all_memories_there)) in
        let el = item es m (omega (arith, lt, is.all_memories_there, is.all_elements_there)) in
        let fl = item fs m (omega (arith, lt, is.all_memories_there, of.all_elements_there)) in
        let om = item other.memories m (omega (arith, lt, is.all_memories_there, of.all_memories_there)) in
        subst (λ q. Contains (needs_of_memory q) z) (sym om.1)
        (in_memory texts pm.0.0 pm.0.1 el.0 fl.0 nm om.0 (is.memories m pm.0.0 pm.0.1 el.0 nm pm.1 el.1 e) (of.memories m pm.0.0 pm.0.1 fl.0 om.0 pm.1 fl.1 om.1) z c)

    module _ (same : map (λ (r : NetRegister). r.leaf) net.registers ≡ map (λ (r : NetRegister). r.leaf) other.registers) where
      in_needs : (sink : Sink) (z : ℕ) → IsAssigned net.leaves z → Contains (needs net sink) z → Contains (needs other sink) z
      in_needs (A_watched x) z a c = c
      in_needs (A_register n) z a c = in_register same n z a (slice_get net.registers n) refl c
      in_needs (A_memory m) z a c = in_memory_at m z (slice_get net.memories m) refl c

      in_cone : (sink : Sink) (x : ℕ) → InCone net sink x → InCone other sink x
      in_cone sink x (by_need c a) = by_need (in_needs sink x a c) (assigned_same x a)
      in_cone sink x (by_reads {x = y} i r a) = by_reads (in_cone sink y i) (reads_same y x (cone_assigned net sink y i) a r) (assigned_same x a)

module _ (texts : Texts) (design : Design) (net : Net) (serves : Serves texts design net) (stand : StandOnce serves.of.placed) (other : Net) (of : IsNetOf texts design other) where
  abbrev placed : List Placed
  placed = serves.of.placed

  placed_same : of.placed ≡ serves.of.placed
  placed_same = one_placed design of.main serves.of.main of.placed serves.of.placed of.found serves.of.found of.order serves.of.order

  with_placed : IsNetWith texts design serves.of.placed of.elements other
  with_placed = subst (λ p. IsNetWith texts design p of.elements other) placed_same of.is

  leaves_same : map (λ (r : NetRegister). r.leaf) net.registers ≡ map (λ (r : NetRegister). r.leaf) other.registers
  leaves_same = same_sorted (λ a b. a < b) (λ x y a b. omega arith) (map (λ (r : NetRegister). r.leaf) net.registers) (map (λ (r : NetRegister). r.leaf) other.registers)
      (registers_rise design placed serves.lists texts net other serves.of.elements of.elements serves.of.well_formed of.well_formed serves.of.is with_placed)
      (registers_rise design placed serves.lists texts other net of.elements serves.of.elements of.well_formed serves.of.well_formed with_placed serves.of.is)
      (register_in design placed serves.lists texts net other serves.of.elements of.elements serves.of.well_formed of.well_formed serves.of.is with_placed)
      (register_in design placed serves.lists texts other net of.elements serves.of.elements of.well_formed serves.of.well_formed with_placed serves.of.is)

  pub same_sinks : sinks net (watch net) ≡ sinks other (watch other)
  same_sinks = sinks_same net other (watch net) (watch other)
      (watch_same design placed serves.lists texts net other serves.of.elements of.elements serves.of.well_formed of.well_formed serves.of.is with_placed)
      (serves.of.is.counted ∙ sym with_placed.counted)
      (before_same design placed serves.lists texts net other serves.of.elements of.elements serves.of.well_formed of.well_formed serves.of.is with_placed stand)
      leaves_same

  pub to_other : (k x : ℕ) → InConeOf net (watch net) k x → InConeOf other (watch other) k x
  to_other k x i = record {
    sink = i.sink;
    there = ap (λ s. slice_get s k) (sym same_sinks) ∙ i.there;
    inside = in_cone design placed serves.lists texts net other serves.of.elements of.elements serves.of.well_formed of.well_formed serves.of.is with_placed leaves_same i.sink x i.inside;
  }

  pub from_other : (k x : ℕ) → InConeOf other (watch other) k x → InConeOf net (watch net) k x
  from_other k x i = record {
    sink = i.sink;
    there = ap (λ s. slice_get s k) same_sinks ∙ i.there;
    inside = in_cone design placed serves.lists texts other net of.elements serves.of.elements of.well_formed serves.of.well_formed with_placed serves.of.is (sym leaves_same) i.sink x i.inside;
  }
