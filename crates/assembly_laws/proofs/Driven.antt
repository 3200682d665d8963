-- A plain leaf of the flat circuit that shows no read data has a driver.
use Rattle.std.proofs.Common.{◌≡◌, ℕ, zero, suc, ◌+◌, ◌==◌, ◌<◌, ◌≤◌, ◌&&◌, Bool, true, false, not, List, [], ◌∷◌, map, length, Option, Some, None, option_map, pos, refl, sym, ap, ap₂, ◌∙◌, subst, arith, true≢false, if◌then◌else◌, slice_index, ◌⊎◌, inl, inr, ⊎_elim}
use Rattle.std.specs.Prelude.{IsSome, is_some}
use Rattle.std.specs.List.{slice_get, range_with_len, flat_map}
use Rattle.std.proofs.lemmas.Grind.{common_steps}
use Rattle.bit_words.specs.declared.value.Value.{Value}
use Rattle.bit_words.specs.Values.{integer_of}
use Rattle.fir_types.specs.declared.fir_type.FirType.{FirType}
use Rattle.fir_types.specs.declared.fir_type.Field.{Field}
use Rattle.fir_types.specs.declared.leaf.TypeLeaf.{TypeLeaf}
use Rattle.fir_types.specs.declared.leaf.PathStep.TheVariants as step
use Rattle.fir_types.specs.declared.memory.Memory.{Memory}
use Rattle.fir_types.specs.Leaves.{leaves}
use Rattle.fir_types.specs.Memories.{depth_of}
use Rattle.fir_types.specs.Bundles.{flipped_field}
use Rattle.fir_tree.specs.declared.expr.Expr.{Expr}
use Rattle.prim_ops.specs.Values.{lone, fitted}
use Rattle.prim_ops.specs.Shapes.{shape_of_value}
use Rattle.fir_meaning.specs.Components.{TypedModule, Component, Sort, An_input, An_output, A_wire, A_register, A_reset_register, A_memory, An_instance, A_node, type_in, target_in, is_clock, flow_of}
use Rattle.fir_meaning.specs.MemoryPorts.{MemoryPort, memory_ports}
use Rattle.fir_meaning.specs.Values.{Valuation, scene_of}
use Rattle.fir_meaning.specs.Values as tree
use Rattle.fir_meaning.specs.Drives as tree_drives
use Rattle.fir_meaning.specs.Loops as tree_loops
use Rattle.fir_meaning.specs.Mentions as tree_reads
use Rattle.fir_meaning.specs.States.{Stands, is_port, is_register, is_source, leaf_of}
use Rattle.fir_meaning.specs.Certain.{must_be_driven}
use Rattle.fir_meaning.specs.WellTyped.{leaf_shape}
use Rattle.fir_meaning.proofs.Settling.{local}
use Rattle.fir_meaning.proofs.Ports.{component_found}
use Rattle.fir_meaning.proofs.Blocks.{drives_same}
use Rattle.circuit_laws.proofs.Reached.{known_module}
use Rattle.circuit_laws.proofs.TypedModules.{module_values}
use Rattle.ground_net.specs.declared.ground.Ground.{Ground}
use Rattle.ground_net.specs.declared.circuit.DrivenModule.{DrivenModule}
use Rattle.ground_net.specs.declared.circuit.GroundLeaf.{GroundLeaf}
use Rattle.ground_net.specs.declared.circuit.GroundMemory.{GroundMemory}
use Rattle.ground_net.specs.declared.circuit.GroundRole.{GroundRole}
use Rattle.ground_net.specs.declared.circuit.GroundRole.TheVariants.{Input, Clock, Register, Plain}
use Rattle.ground_net.specs.declared.circuit.GroundStmt.{GroundStmt}
use Rattle.ground_net.specs.Cones.{numbered}
use Rattle.ground_net.specs.Grounds.{Instant}
use Rattle.ground_net.specs.Statements.{drives}
use Rattle.ground_net.specs.Renumbering.{with_numbers, seen_by}
use Rattle.ground_net.specs.Shapes.{HasShapes, shaped}
use Rattle.ground_net.proofs.Shaping.{fitted_shape}
use Rattle.expand_whens.specs.Expanding.{IsUndriven, Drives}
use Rattle.net_of_circuit.specs.FlatOrder.{Placed, Standing, all_memories, memory_in}
use Rattle.net_of_circuit.specs.NetOf.{valuation_of, may_read, read_field}
use Rattle.net_of_circuit.specs.Numbers.{module_leaves, scene_at, is_set, role_of, table_of}
use Rattle.flatten_instances.specs.Flat.{is_input, role_at}
use Rattle.flatten_instances.specs.Numbers.{AreNumbers, driver_in, driver_with}
use Rattle.memory_ports.specs.declared.reads.ReadData.{ReadData}
use Rattle.memory_ports.specs.Placing.{Shows, data_of, data_in, last_data, reads_of_port, reads_of}
use Rattle.memory_ports.specs.Sound.{IsPlain}
use Rattle.net_laws.proofs.Lists.{below_length, from_map_at, map_at, place_of}
use Rattle.lowering_laws.proofs.Heights.{some_same, none_some}
use Rattle.lowering_laws.proofs.Parts.{item}
use Rattle.lowering_laws.proofs.Seeing.{Fits, seen_agree, inner_fits}
use Rattle.lowering_laws.proofs.Stores.{memories_counted}
use Rattle.lowering_laws.proofs.Whole.{Setting, design, spots, placed, Way, match, lists, leaf_at}
use Rattle.lowering_laws.proofs.Drivers.{all, known_of, flat_driver, DriverOf, own_driver, own_drives, set_not_input, no_port_not_input}
use Rattle.assembly_laws.proofs.ListPlaces.{off, off_at, range_get, numbered_is, from_flat, pick_there}
use Rattle.assembly_laws.proofs.Bundles.{fields_of, part_leaves, port_leaves, twice, bundle_is, uint_leaves, clock_leaves, data_leaf, FieldSort, a_uint, the_clock, read_data, written_data, a_mask, field_sort}
use Rattle.assembly_laws.proofs.Firsts.{of_component}
use Rattle.assembly_laws.proofs.Origins.{Outside, outside, path_behind}
use Rattle.assembly_laws.proofs.Rising.{of_memory}
use Rattle.assembly_laws.proofs.Shaped.{entry_at}
use Rattle.assembly_laws.proofs.Stored.{Held, held, unflipped, make_flat}

-- What a leaf shows

shown_on : (x : ℕ) (reads : List Shows) (before : Option ReadData) → is_some before ≡ true → is_some (last_data reads x before) ≡ true
shown_on x [] before e = e
shown_on x (r ∷ reads) before e = by (r.0 == x) (shown_on x reads (Some r.1) refl) (shown_on x reads before e) where
  by : (b : Bool) → is_some (last_data reads x (Some r.1)) ≡ true → is_some (last_data reads x before) ≡ true → is_some (last_data reads x (if b then Some r.1 else before)) ≡ true
  by true p q = p
  by false p q = q

shown_by : (x : ℕ) (reads : List Shows) (i : ℕ) (s : Shows) (before : Option ReadData) → slice_get reads i ≡ Some s → s.0 ≡ x → is_some (last_data reads x before) ≡ true
shown_by x [] i s before e q = none_some e
shown_by x (r ∷ reads) zero s before e q =
    let same : r.0 ≡ x = ap (λ (w : Shows). w.0) (some_same e) ∙ q in
    let test : (r.0 == x) ≡ true = grind (arith, common_steps, same) in
    ap (λ b. is_some (last_data reads x (if b then Some r.1 else before))) test ∙ shown_on x reads (Some r.1) refl
shown_by x (r ∷ reads) (suc i) s before e q = shown_by x reads i s (if r.0 == x then Some r.1 else before) e q

-- Roles and sorts

plain_before : (path : List ℕ) (r : GroundRole) → role_at path r ≡ Plain → (r ≡ Plain) ⊎ ((is_input r ≡ true) × (i : ℕ) × (rest : List ℕ) × (path ≡ i ∷ rest))
plain_before [] r e = inl e
plain_before (i ∷ path) Input e = inr (refl, i, path, refl)
plain_before (i ∷ path) Clock e = absurd cc
plain_before (i ∷ path) Register e = absurd cc
plain_before (i ∷ path) Plain e = inl refl

is_plain : GroundRole → Bool
is_plain Plain = true
is_plain Input = false
is_plain Clock = false
is_plain Register = false

plain_parts : (a b c : Bool) → is_plain (if a then Clock else if b then Register else if c then Input else Plain) ≡ true → (a ≡ false) × (b ≡ false) × (c ≡ false)
unfolding is_plain
plain_parts true b c e = absurd (true≢false (sym e))
plain_parts false true c e = absurd (true≢false (sym e))
plain_parts false false true e = absurd (true≢false (sym e))
plain_parts false false false e = (refl, refl, refl)

plain_true : is_plain Plain ≡ true
unfolding is_plain
plain_true = refl

-- A leaf that is only read, and whose role is plain, is a node's or a memory's read data.
plain_source : (sort : Sort) (flip : Bool) → is_source (flow_of sort flip) ≡ true → (is_port sort && is_source (flow_of sort flip)) ≡ false → target_in sort ≡ None
    → ((e : Expr) × (sort ≡ A_node e)) ⊎ ((memory : Memory) × (sort ≡ A_memory memory) × (flip ≡ false))
plain_source An_input true s p t = absurd (true≢false (sym s))
plain_source An_input false s p t = absurd (true≢false p)
plain_source An_output true s p t = absurd (true≢false p)
plain_source An_output false s p t = absurd (true≢false (sym s))
plain_source A_wire flip s p t = absurd (true≢false (sym s))
plain_source (A_register clock) flip s p t = absurd (true≢false (sym s))
plain_source (A_reset_register clock reset init) flip s p t = absurd (true≢false (sym s))
plain_source (A_memory memory) true s p t = absurd (true≢false (sym s))
plain_source (A_memory memory) false s p t = inr (memory, refl, refl)
plain_source (An_instance target) flip s p t = none_some (sym t)
plain_source (A_node e) flip s p t = inl (e, refl)

must : (sort : Sort) (flip : Bool) → is_source (flow_of sort flip) ≡ false → is_register sort ≡ false → must_be_driven sort (flow_of sort flip) ≡ true
must An_input true s r = refl
must An_input false s r = absurd (true≢false s)
must An_output true s r = absurd (true≢false s)
must An_output false s r = refl
must A_wire flip s r = refl
must (A_register clock) flip s r = absurd (true≢false r)
must (A_reset_register clock reset init) flip s r = absurd (true≢false r)
must (A_memory memory) true s r = refl
must (A_memory memory) false s r = absurd (true≢false s)
must (An_instance target) true s r = refl
must (An_instance target) false s r = absurd (true≢false s)
must (A_node expr) flip s r = absurd (true≢false s)

-- An instant of the flat leaves in range

zero_of : Option GroundLeaf → Value
zero_of (Some leaf) = fitted leaf.kind leaf.width (pos 0)
zero_of None = lone []

zero_shape : (leaf : GroundLeaf) → shape_of_value (zero_of (Some leaf)) ≡ shaped leaf.kind leaf.width
unfolding zero_of
zero_shape leaf = let narrow : leaf.width ≤ 128 = leaf.narrow in fitted_shape leaf.kind leaf.width (pos 0) narrow

abbrev Some_driver : Setting → ℕ → Type 0
Some_driver z x = (driver : Ground) × (flat_driver z x ≡ Some driver)

module _ (z : Setting) where
  rest : Instant
  rest = record { leaf = λ x. zero_of (slice_get z.flat.leaves x); load = λ m k a. lone [] }

  rest_fits : Fits z.fitted z.well z.lowered z.is z.driven z.expanded (spots z) (placed z) (match z) (lists z) rest
  unfolding rest
  rest_fits x y e =
      let at = leaf_at z x y e in
      ap (λ o. shape_of_value (zero_of o)) at.leaf_there ∙ (zero_shape at.leaf ∙ ap₂ shaped at.kind at.width)

  abbrev run : Valuation
  run = valuation_of (all z) rest

  module _ {path : List ℕ} {n : ℕ} {m : TypedModule} {d : DrivenModule} {names : List ℕ} (leads : Way z path n m d names) (numbers : List ℕ) (are : AreNumbers z.driven (spots z) path n numbers) where
    abbrev inner : Instant
    inner = seen_by (slice_index numbers) rest

    shapes : HasShapes (table_of (known_of z leads).g.leaves) inner
    shapes = inner_fits z.fitted z.well z.lowered z.is z.driven z.expanded (spots z) (placed z) (match z) (lists z) leads numbers are rest rest_fits

    -- the ground statements leave in a leaf what the circuit's do
    left_same : (y : ℕ) (c : Component) (leaf : TypeLeaf) → slice_get (module_leaves m) y ≡ Some (c, leaf) → is_set (c, leaf) ≡ true
        → option_map integer_of (drives inner y (known_of z leads).g.body) ≡ tree_drives.drives (scene_of m names run) (leaf_of c leaf) c.declaration.block
    left_same y c leaf at set =
        let known = known_of z leads in
        known.ground_is.values y (c, leaf) inner at set shapes
        ∙ drives_same (type_in m) (leaf_of c leaf) c.declaration.block (scene_at m inner).integers (local m names run)
        (seen_agree z.fitted z.well z.lowered z.is z.driven z.expanded (spots z) (placed z) (match z) (lists z) leads numbers are rest
        (tree_reads.joined (tree_loops.live (type_in m) (leaf_of c leaf) c.declaration.block))
        (λ u h. let r = (known.ground_is.reads y (c, leaf) at set).all u h in (r.0, r.1)))

  module _ (x : ℕ) (path : List ℕ) (m : TypedModule) (c : Component) (leaf : TypeLeaf) (D : DriverOf z m path c leaf (flat_driver z x)) where
    abbrev body : List GroundStmt
    body = (known_of z D.leads).g.body

    abbrev seen : Instant
    seen = seen_by (slice_index D.numbers) rest

    -- where something is left in the leaf, it has a driver
    has_driver : (v : Value) → drives seen D.y body ≡ Some v → Some_driver z x
    has_driver v left = by (driver_in D.d D.y) refl where
      by : (o : Option Ground) → driver_in D.d D.y ≡ o → Some_driver z x
      by None q =
          let own = own_drives z m path c leaf (flat_driver z x) D in
          let never : IsUndriven D.y body = subst (λ w. Drives own.0 D.y body w) q own.2 in
          none_some (sym (never.never seen) ∙ left)
      by (Some g) q = (with_numbers (slice_index D.numbers) g, D.has ∙ ap (driver_with D.numbers) q)

    -- so it is where statements surely drive it
    set_driver_there : is_set (c, leaf) ≡ true → IsSome (tree_drives.drives (scene_of m path run) (leaf_of c leaf) c.declaration.block) → Some_driver z x
    set_driver_there set some = by (drives seen D.y body) refl where
      by : (o : Option Value) → drives seen D.y body ≡ o → Some_driver z x
      by None q = absurd (true≢false (sym some ∙ ap is_some (sym (left_same D.leads D.numbers D.are D.y c leaf D.at set) ∙ ap (option_map integer_of) q)))
      by (Some v) q = has_driver v q

  -- a node's leaf
  node_driver : (x : ℕ) (y : Standing) (e : Expr) → slice_get (all z) x ≡ Some y → y.0.c.declaration.sort ≡ A_node e → is_clock y.1 ≡ false → Some_driver z x
  node_driver x y e there sort clock = by (drives seen' D.y body') refl where
    D : DriverOf z y.0.m y.0.path y.0.c y.1 (flat_driver z x)
    D = own_driver z x y there (no_port_not_input y.0.c y.1 (ap is_port sort))

    body' : List GroundStmt
    body' = (known_of z D.leads).g.body

    seen' : Instant
    seen' = seen_by (slice_index D.numbers) rest

    stands : Stands (design z) y.0.path y.0.m y.0.c y.1
    stands = let L = lists z in (L.stands x y there).0

    kth : (k : ℕ) × (slice_get (leaves y.0.c.typ) k ≡ Some y.1)
    kth = place_of (leaves y.0.c.typ) y.1 stands.listed

    left : option_map integer_of (drives seen' D.y body') ≡ slice_get (map integer_of (tree.value e (scene_at y.0.m seen'))) kth.0
    left = (known_of z D.leads).ground_is.nodes D.y (y.0.c, y.1) e kth.0 seen' D.at sort clock kth.1 (shapes D.leads D.numbers D.are)

    value_there : (v : Value) × (slice_get (tree.value e (scene_at y.0.m seen')) kth.0 ≡ Some v)
    value_there =
        let it = known_module z.fitted z.well y.0.path y.0.m stands.reached in
        let typed = it.typed.nodes y.0.c e (component_found y.0.m y.0.c.declaration.name y.0.c stands.declared).1 sort in
        let values = module_values it.holder y.0.m it.typed e _ typed (scene_at y.0.m seen').integers in
        let v = from_map_at shape_of_value (tree.value e (scene_at y.0.m seen')) kth.0 (leaf_shape y.1) (ap (λ l. slice_get l kth.0) values ∙ map_at leaf_shape (leaves y.0.c.typ) kth.0 y.1 kth.1) in
        (v.0, v.1)

    by : (o : Option Value) → drives seen' D.y body' ≡ o → Some_driver z x
    by None q = none_some (sym (ap (option_map integer_of) q) ∙ (left ∙ map_at integer_of (tree.value e (scene_at y.0.m seen')) kth.0 value_there.0 value_there.1))
    by (Some v) q = has_driver x y.0.path y.0.m y.0.c y.1 D v q

  -- Read data

  turned : (flip inner : Bool) → not inner ≡ false → inner ≡ false → ⊥
  turned flip true a b = true≢false b
  turned flip false a b = true≢false a

  abbrev Read_there : ℕ → Type 0
  Read_there x = (i : ℕ) × (s : Shows) × (slice_get (reads_of z.flat.memories) i ≡ Some s) × (s.0 ≡ x)

  module _ (x : ℕ) (y : Standing) (there : slice_get (all z) x ≡ Some y) (text : Memory) (sort : y.0.c.declaration.sort ≡ A_memory text) (source : y.1.flip ≡ false) where
    -- the flat memory
    abbrev b : Placed × Memory
    b = (y.0, text)

    listed : (m : ℕ) × (slice_get (all_memories (placed z)) m ≡ Some b)
    listed = let at = of_component (placed z) x y there in pick_there (λ (p : Placed). memory_in p p.c.declaration.sort) (placed z) at.0 y.0 b at.1 (ap (memory_in y.0) sort)

    flat_memory : (memory : GroundMemory) × (slice_get z.flat.memories listed.0 ≡ Some memory)
    flat_memory = item z.flat.memories listed.0 (subst (λ n. listed.0 < n) (sym (memories_counted z)) (below_length (all_memories (placed z)) listed.0 b listed.1))

    h : Held z flat_memory.0 b
    h = held z listed.0 flat_memory.0 b flat_memory.1 listed.1

    module _ (q i k : ℕ) (port : MemoryPort) (f : Field) (l : TypeLeaf) (port_there : slice_get (memory_ports text) q ≡ Some port) (field_there : slice_get (fields_of h.element (depth_of text) port) i ≡ Some f)
        (leaf_there : slice_get (leaves f.typ) k ≡ Some l) (is : twice port.name f l ≡ y.1) where
      not_flipped : f.flip ≡ false → l.flip ≡ false → ⊥
      not_flipped a c =
          true≢false (sym (ap (λ flip. not (if flip then not l.flip else l.flip)) a ∙ ap not c) ∙ (ap (λ (w : TypeLeaf). w.flip) is ∙ source))

      lone_unflipped : (t : FirType) (w : TypeLeaf) → leaves t ≡ w ∷ [] → w.flip ≡ false → f.typ ≡ t → l.flip ≡ false
      lone_unflipped t w one flip typ = by k (ap (λ ls. slice_get ls k) (sym (ap leaves typ ∙ one)) ∙ leaf_there) where
        by : (k : ℕ) → slice_get (w ∷ []) k ≡ Some l → l.flip ≡ false
        by zero e = ap (λ (v : TypeLeaf). v.flip) (sym (some_same e)) ∙ flip
        by (suc k) e = none_some e

      shown : may_read port.mode ≡ true → f ≡ flipped_field port.place (read_field port.mode) h.element → Read_there x
      shown may field_is =
          let np = item flat_memory.0.ports q (subst (λ n. q < n) (sym h.of.all_ports) (below_length (memory_ports text) q port port_there)) in
          let of = h.of.ports q port np.0 port_there np.1 in
          let r = of.read may in
          let l_there : slice_get (leaves h.element) k ≡ Some l = ap (λ (g : Field). slice_get (leaves g.typ) k) (sym field_is) ∙ leaf_there in
          let at = item r.0.leaves k (subst (λ n. k < n) (sym r.2.counted) (below_length (leaves h.element) k l l_there)) in
          let names = r.2.each k at.0 l at.1 l_there in
          let way_is : names.leaf.path ≡ y.1.path =
          names.is ∙ (ap (λ (g : Field). step.Field port.name ∷ step.Field g.name.id ∷ l.path) (sym field_is) ∙ ap (λ (w : TypeLeaf). w.path) is) in
          let L = lists z in
          let same : at.0 ≡ x = L.once at.0 x (y.0, names.leaf) y names.there there (ap (make_flat y.0) way_is) in
          let one : Shows = (at.0, data_of listed.0 k np.0 r.0) in
          let in_port : slice_get (reads_of_port listed.0 np.0 np.0.read) k ≡ Some one =
          ap (λ o. slice_get (reads_of_port listed.0 np.0 o) k) r.1 ∙ map_at (λ (both : ℕ × ℕ). (both.1, data_of listed.0 both.0 np.0 r.0)) (numbered r.0.leaves) k (k, at.0) (numbered_is r.0.leaves k at.0 at.1) in
          let in_memory = off_at (λ p. reads_of_port listed.0 p p.read) flat_memory.0.ports q k np.0 one np.1 in_port in
          let in_all = off_at of_memory (numbered z.flat.memories) listed.0 (off (λ p. reads_of_port listed.0 p p.read) flat_memory.0.ports q + k) (listed.0, flat_memory.0) one
          (numbered_is z.flat.memories listed.0 flat_memory.0 flat_memory.1) in_memory in
          (off of_memory (numbered z.flat.memories) listed.0 + (off (λ p. reads_of_port listed.0 p p.read) flat_memory.0.ports q + k), one, in_all, same)

      by_field : FieldSort h.element port f → Read_there x
      by_field (a_uint width flip typ) = absurd (not_flipped flip (lone_unflipped _ _ (uint_leaves port.place width) refl typ))
      by_field (the_clock flip typ) = absurd (not_flipped flip (lone_unflipped _ _ (clock_leaves port.place) refl typ))
      by_field (read_data may field_is) = shown may field_is
      by_field (written_data flip typ) = absurd (not_flipped flip (unflipped z flat_memory.0 b h k l (ap (λ t. slice_get (leaves t) k) (sym typ) ∙ leaf_there)))
      by_field (a_mask flip typ) =
          let d = data_leaf h.element k l (ap (λ t. slice_get (leaves t) k) (sym typ) ∙ leaf_there) in
          absurd (not_flipped flip (sym d.2 ∙ unflipped z flat_memory.0 b h k d.0 d.1))

    -- Read data of a memory are shown.
    read_there : Read_there x
    read_there =
        let L = lists z in
        let stands = (L.stands x y there).0 in
        let j = place_of (leaves y.0.c.typ) y.1 stands.listed in
        let in_ports : slice_get (flat_map (port_leaves h.element (depth_of text)) (memory_ports text)) j.0 ≡ Some y.1 = ap (λ ls. slice_get ls j.0) (sym (h.of.is_element.bundle ∙ bundle_is text h.element)) ∙ j.1 in
        let p = from_flat (port_leaves h.element (depth_of text)) (memory_ports text) j.0 y.1 in_ports in
        let g = from_flat (part_leaves p.1.name) (fields_of h.element (depth_of text) p.1) p.2 y.1 p.4 in
        let l = from_map_at (twice p.1.name g.1) (leaves g.1.typ) g.2 y.1 g.4 in
        by_field p.0 g.0 g.2 p.1 g.1 l.0 p.3 g.3 l.1 l.2 (field_sort h.element (depth_of text) p.1 g.0 g.1 g.3)

  data_at : (x : ℕ) → x < length z.flat.leaves → slice_get (data_in z.flat) x ≡ Some (last_data (reads_of z.flat.memories) x None)
  data_at x below =
      let n : 0 + x ≡ x = omega arith in
      map_at (λ x. last_data (reads_of z.flat.memories) x None) (range_with_len 0 (length z.flat.leaves)) x (0 + x) (range_get 0 (length z.flat.leaves) x below) ∙ ap (λ i. Some (last_data (reads_of z.flat.memories) i None)) n

  not_shown : {B : Type 0} (x : ℕ) → x < length z.flat.leaves → slice_get (data_in z.flat) x ≡ Some None → Read_there x → B
  not_shown x below none read =
      let shows = shown_by x (reads_of z.flat.memories) read.0 read.1 None read.2 read.3 in
      absurd (true≢false (sym shows ∙ ap is_some (some_same (sym (data_at x below) ∙ none))))

  module _ (some : (path : List ℕ) (m : TypedModule) (c : Component) (leaf : TypeLeaf) → Stands (design z) path m c leaf → must_be_driven c.declaration.sort (flow_of c.declaration.sort leaf.flip) ≡ true → (rho : Valuation)
      → IsSome (tree_drives.drives (scene_of m path rho) (leaf_of c leaf) c.declaration.block)) where
    own_there : (x : ℕ) (y : Standing) → slice_get (all z) x ≡ Some y → role_of (y.0.c, y.1) ≡ Plain → x < length z.flat.leaves → slice_get (data_in z.flat) x ≡ Some None → Some_driver z x
    own_there x y e role below none = by (is_source (flow_of y.0.c.declaration.sort y.1.flip)) refl where
      stands : Stands (design z) y.0.path y.0.m y.0.c y.1 × (target_in y.0.c.declaration.sort ≡ None)
      stands = let L = lists z in L.stands x y e

      parts : (is_clock y.1 ≡ false) × (is_register y.0.c.declaration.sort ≡ false) × ((is_port y.0.c.declaration.sort && is_source (flow_of y.0.c.declaration.sort y.1.flip)) ≡ false)
      parts = plain_parts (is_clock y.1) (is_register y.0.c.declaration.sort) (is_port y.0.c.declaration.sort && is_source (flow_of y.0.c.declaration.sort y.1.flip)) (ap is_plain role ∙ plain_true)

      by : (s : Bool) → is_source (flow_of y.0.c.declaration.sort y.1.flip) ≡ s → Some_driver z x
      by false q =
          set_driver_there x y.0.path y.0.m y.0.c y.1 (own_driver z x y e (set_not_input y.0.c y.1 q)) (ap₂ (λ a b. not a && not b) q parts.0)
          (some y.0.path y.0.m y.0.c y.1 stands.0 (must y.0.c.declaration.sort y.1.flip q parts.1) run)
      by true q = ⊎_elim
          (λ node. node_driver x y node.0 e node.1 parts.0)
          (λ memory. not_shown x below none (read_there x y e memory.0 memory.1 memory.2))
          (plain_source y.0.c.declaration.sort y.1.flip q parts.2 stands.1)

    input_there : (x : ℕ) (y : Standing) (o : Outside z x y) → Some_driver z x
    input_there x y o =
        let c = o.origin.c in
        let leaf = o.origin.leaf in
        let source : is_source (flow_of c.declaration.sort leaf.flip) ≡ false = ap₂ (λ s b. is_source (flow_of s b)) o.sort o.turned in
        set_driver_there x o.origin.path o.origin.m c leaf o.origin.of (ap₂ (λ a b. not a && not b) source o.clock)
        (some o.origin.path o.origin.m c leaf o.origin.stands (must c.declaration.sort leaf.flip source (ap is_register o.sort)) run)

    -- A plain leaf that shows no read data has a driver.
    pub drivers_there : (x : ℕ) → IsPlain z.flat x → slice_get (data_in z.flat) x ≡ Some None → Some_driver z x
    drivers_there x plain none =
        let y = entry_at z x plain.leaf plain.there in
        let at = leaf_at z x y.0 y.1 in
        let same : at.leaf ≡ plain.leaf = some_same (sym at.leaf_there ∙ plain.there) in
        let role : role_at at.s.path (role_of (y.0.0.c, y.0.1)) ≡ Plain = sym at.role ∙ (ap (λ (l : GroundLeaf). l.role) same ∙ plain.is) in
        ⊎_elim
        (λ own. own_there x y.0 y.1 own (below_length z.flat.leaves x plain.leaf plain.there) none)
        (λ input.
        let p = path_behind z at.s.path y.0.0.path at.s.within y.0.0.m at.at.d input.1 input.2 at.at.leads input.3 in
        input_there x y.0 (outside z x y.0 y.1 input.0 p.0 p.1 p.2))
        (plain_before at.s.path (role_of (y.0.0.c, y.0.1)) role)
