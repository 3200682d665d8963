-- What the registers of the flat circuit hold next is what the circuit's do.
use Rattle.std.proofs.Common.{◌≡◌, ℕ, zero, suc, ◌<◌, ◌&&◌, Bool, true, false, cond, not, List, [], ◌∷◌, filter, Option, Some, None, option_map, ℤ, refl, sym, ap, ap₂, ◌∙◌, subst, if◌then◌else◌, slice_index, true≢false}
use Rattle.std.specs.List.{slice_get}
use Rattle.bit_words.specs.declared.value.Value.{Value}
use Rattle.bit_words.specs.Values.{integer_of}
use Rattle.fir_types.specs.declared.leaf.TypeLeaf.{TypeLeaf}
use Rattle.fir_tree.specs.declared.expr.Expr.{Expr}
use Rattle.prim_ops.specs.Values.{is_one}
use Rattle.fir_meaning.specs.Components.{TypedModule, Component, Leaf, Sort, An_input, An_output, A_wire, A_register, A_reset_register, A_memory, An_instance, A_node, target_in, type_in, is_clock, flow_of}
use Rattle.fir_meaning.specs.Values.{Valuation, Scene, scene_of, whole}
use Rattle.fir_meaning.specs.Values as tree
use Rattle.fir_meaning.specs.Drives as tree_drives
use Rattle.fir_meaning.specs.Drives.{left_in, set_at}
use Rattle.fir_meaning.specs.Mentions as tree_reads
use Rattle.fir_meaning.specs.Mentions.{Agree, whole_region}
use Rattle.fir_meaning.specs.Loops as tree_loops
use Rattle.fir_meaning.specs.Loops.{driven_from}
use Rattle.fir_meaning.specs.States.{Stands, is_port, is_register, is_source, leaf_of, or_else}
use Rattle.fir_meaning.specs.States as tree_states
use Rattle.fir_meaning.proofs.Settling.{local}
use Rattle.fir_meaning.proofs.Ports.{component_found}
use Rattle.fir_meaning.proofs.Blocks.{drives_same}
use Rattle.fir_meaning.proofs.Tracking.{tracked, all_same}
use Rattle.circuit_laws.proofs.Reached.{known_module}
use Rattle.ground_net.specs.declared.ground.Ground.{Ground}
use Rattle.ground_net.specs.declared.circuit.DrivenModule.{DrivenModule}
use Rattle.ground_net.specs.declared.circuit.GroundLeaf.{GroundLeaf}
use Rattle.ground_net.specs.declared.circuit.GroundStmt.{GroundStmt}
use Rattle.ground_net.specs.declared.circuit.GroundRole.TheVariants.{Register}
use Rattle.ground_net.specs.declared.net.NetRegister.{NetRegister}
use Rattle.ground_net.specs.declared.net.NetReset.{NetReset}
use Rattle.ground_net.specs.Grounds.{Instant, value, mentions, joined}
use Rattle.ground_net.specs.Statements.{drives, live}
use Rattle.ground_net.specs.Renumbering.{with_numbers, seen_by}
use Rattle.ground_net.proofs.Layers.{renumbered_value}
use Rattle.ground_net.specs.Shapes.{Table, HasShapes}
use Rattle.ground_net.specs.Cycles.{driven_or, after_reset}
use Rattle.expand_whens.specs.Expanding.{IsDriver, IsUndriven, Drives}
use Rattle.net_of_circuit.specs.FlatOrder.{Standing, flat_of}
use Rattle.net_of_circuit.specs.NetOf.{Held, Driven, part_of, valuation_of, is_input_of_main, is_late_read, Without_value, Given, Kept}
use Rattle.net_of_circuit.specs.Numbers.{ModuleLeaf, module_leaves, scene_at, table_of, role_of, is_set, SameReads}
use Rattle.net_of_circuit.specs.Lowering.{IsReset, HasReset}
use Rattle.flatten_instances.specs.Numbers.{AreNumbers, driver_in, driver_with, register_with, reset_with}
use Rattle.flatten_instances.specs.Flat.{is_register_at}
use Rattle.net_laws.proofs.Lists.{below_length}
use Rattle.lowering_laws.proofs.Heights.{some_same, none_some}
use Rattle.lowering_laws.proofs.Parts.{item}
use Rattle.lowering_laws.proofs.Matching.{two_at}
use Rattle.lowering_laws.proofs.Seeing.{Fits, seen_agree, inner_fits}
use Rattle.lowering_laws.proofs.Whole.{Setting, design, spots, placed, Way, match, lists}
use Rattle.lowering_laws.proofs.Drivers.{all, known_of, flat_driver, DriverOf, numbered_at, own_driver, own_flat, own_drives, set_not_input, role_is}
use Rattle.lowering_laws.proofs.Inits.{init_same}

from_filter : {A : Type 0} (p : A → Bool) (xs : List A) (n : ℕ) (s : A) → slice_get (filter p xs) n ≡ Some s → (x : ℕ) × (slice_get xs x ≡ Some s)
from_filter p [] n s e = none_some e
from_filter {A} p (a ∷ xs) n s e = by (p a) n e (λ n e. from_filter p xs n s e) where
  by : (b : Bool) (n : ℕ) → slice_get (cond b (a ∷ filter p xs) (filter p xs)) n ≡ Some s → ((n : ℕ) → slice_get (filter p xs) n ≡ Some s → (x : ℕ) × (slice_get xs x ≡ Some s)) → (x : ℕ) × (slice_get (a ∷ xs) x ≡ Some s)
  by false n e h = let r = h n e in (suc r.0, r.1)
  by true zero e h = (0, e)
  by true (suc n) e h = let r = h n e in (suc r.0, r.1)

pub register_flow : (sort : Sort) (flip : Bool) → is_register sort ≡ true → is_source (flow_of sort flip) ≡ false
register_flow (A_register clock) flip e = refl
register_flow (A_reset_register clock reset init) flip e = refl
register_flow An_input flip e = absurd (true≢false (sym e))
register_flow An_output flip e = absurd (true≢false (sym e))
register_flow A_wire flip e = absurd (true≢false (sym e))
register_flow (A_memory memory) flip e = absurd (true≢false (sym e))
register_flow (An_instance target) flip e = absurd (true≢false (sym e))
register_flow (A_node expr) flip e = absurd (true≢false (sym e))

pub register_target : (sort : Sort) → is_register sort ≡ true → target_in sort ≡ None
register_target (A_register clock) e = refl
register_target (A_reset_register clock reset init) e = refl
register_target An_input e = refl
register_target An_output e = refl
register_target A_wire e = refl
register_target (A_memory memory) e = refl
register_target (An_instance target) e = absurd (true≢false (sym e))
register_target (A_node expr) e = refl

has_register : (m : TypedModule) (table : Table) (y : ModuleLeaf) (sort : Sort) (r : Option NetReset) → HasReset m table y sort r → is_register sort ≡ true
has_register m table y (A_register clock) r h = refl
has_register m table y (A_reset_register clock reset init) r h = refl
has_register m table y An_input r h = absurd h
has_register m table y An_output r h = absurd h
has_register m table y A_wire r h = absurd h
has_register m table y (A_memory memory) r h = absurd h
has_register m table y (An_instance target) r h = absurd h
has_register m table y (A_node expr) r h = absurd h

chosen_or : (b : Bool) (held i : ℤ) (o : Option ℤ) → or_else held (if b then Some i else o) ≡ (if b then i else or_else held o)
chosen_or true held i o = refl
chosen_or false held i o = refl

-- a register is held, not driven
pub held_not_driven : (y : Standing) → is_clock y.1 ≡ false → is_register y.0.c.declaration.sort ≡ true → part_of y ≡ Driven → ⊥
held_not_driven y clock register e = differs (sym is ∙ e) where
  is : part_of y ≡ Held
  is = ap (λ b. if b then Without_value else if is_register y.0.c.declaration.sort then Held else if is_input_of_main y.0.path y.0.c y.1 then Given else if is_late_read y.0.c.declaration.sort y.1 then Kept else Driven) clock
      ∙ ap (λ b. if b then Held else if is_input_of_main y.0.path y.0.c y.1 then Given else if is_late_read y.0.c.declaration.sort y.1 then Kept else Driven) register

  differs : Held ≡ Driven → ⊥
  differs e = cc

module _ (z : Setting) where
  -- A register of the flat circuit, with the module that it stands in.
  pub record RegisterAt (register : NetRegister) (y : Standing) : Type 0 where
    pub path : List ℕ
    pub n : ℕ
    pub d : DrivenModule
    pub leads : Way z path n y.0.m d y.0.path
    pub numbers : List ℕ
    pub are : AreNumbers z.driven (spots z) path n numbers
    pub r : ℕ
    pub own : NetRegister
    pub there : slice_get (known_of z leads).g.registers r ≡ Some own
    pub at : slice_get (module_leaves y.0.m) own.leaf ≡ Some (y.0.c, y.1)
    pub is : register ≡ register_with numbers own

  pub register_at : (n : ℕ) (register : NetRegister) → slice_get z.flat.registers n ≡ Some register → (y : Standing) → slice_get (all z) register.leaf ≡ Some y → RegisterAt register y
  register_at n register e y there =
      let L = lists z in
      let R = z.is_flat.is.registers in
      let s = item (filter (is_register_at z.driven) (spots z)) n (subst (λ k. n < k) R.counted (below_length z.flat.registers n register e)) in
      let of = R.each n s.0 register s.1 e in
      let among = from_filter (is_register_at z.driven) (spots z) n s.0 s.1 in
      let t = two_at (match z) among.0 s.0 among.1 in
      let it = t.2 in
      let known = known_of z it.leads in
      let same : of.m ≡ it.d = some_same (sym of.found ∙ known.driven_there) in
      let own_there : slice_get known.g.registers of.r ≡ Some of.register = ap (λ l. slice_get l of.r) (sym (ap (λ (w : DrivenModule). w.registers) same ∙ known.driven_is.registers)) ∙ of.there in
      let at : slice_get (module_leaves t.0.0.m) of.register.leaf ≡ Some (t.0.0.c, t.0.1) = ap (slice_get (module_leaves t.0.0.m)) of.leaf ∙ it.number in
      let entry = numbered_at z it.leads of.numbers of.numbered of.register.leaf (t.0.0.c, t.0.1) at in
      let leaf_is : register.leaf ≡ slice_index of.numbers of.register.leaf = ap (λ (w : NetRegister). w.leaf) of.is in
      let y_is : y ≡ entry.0 = some_same (sym there ∙ (ap (slice_get (all z)) leaf_is ∙ entry.1)) in
      let stands = (L.stands among.0 t.0 t.1).0 in
      let flat_same : flat_of y ≡ flat_of t.0 = ap flat_of y_is ∙ (entry.2 ∙ own_flat z t.0.0.path t.0.0.m t.0.0.c t.0.1 stands.declared it.own) in
      let x_same : register.leaf ≡ among.0 = L.once register.leaf among.0 y t.0 there t.1 flat_same in
      let same_y : t.0 ≡ y = some_same (sym t.1 ∙ (ap (slice_get (all z)) (sym x_same) ∙ there)) in
      subst (RegisterAt register) same_y (record { path = s.0.path; n = s.0.within; d = it.d; leads = it.leads; numbers = of.numbers; are = of.numbered; r = of.r; own = of.register; there = own_there; at = at; is = of.is })

  -- what a module has for the register's reset
  pub reset_of : (register : NetRegister) (y : Standing) (R : RegisterAt register y) → HasReset y.0.m (table_of (known_of z R.leads).g.leaves) (y.0.c, y.1) y.0.c.declaration.sort R.own.reset
  reset_of register y R = let known = known_of z R.leads in known.ground_is.resets R.r R.own (y.0.c, y.1) R.there R.at

  pub is_of_register : (register : NetRegister) (y : Standing) → RegisterAt register y → is_register y.0.c.declaration.sort ≡ true
  is_of_register register y R = has_register y.0.m (table_of (known_of z R.leads).g.leaves) (y.0.c, y.1) y.0.c.declaration.sort R.own.reset (reset_of register y R)

  pub register_clock : (path : List ℕ) (m : TypedModule) (c : Component) (leaf : TypeLeaf) → Stands (design z) path m c leaf → is_register c.declaration.sort ≡ true → is_clock leaf ≡ false
  register_clock path m c leaf stands register =
      let it = known_module z.fitted z.well path m stands.reached in
      it.typed.held c leaf (component_found m c.declaration.name c stands.declared).1 register stands.listed

  -- the driver of a register's leaf
  pub register_driver : (x : ℕ) (y : Standing) → slice_get (all z) x ≡ Some y → is_register y.0.c.declaration.sort ≡ true → DriverOf z y.0.m y.0.path y.0.c y.1 (flat_driver z x)
  register_driver x y there register = own_driver z x y there (set_not_input y.0.c y.1 (register_flow y.0.c.declaration.sort y.1.flip register))

  pub register_set : (y : Standing) → is_clock y.1 ≡ false → is_register y.0.c.declaration.sort ≡ true → is_set (y.0.c, y.1) ≡ true
  register_set y clock register = ap₂ (λ a b. not a && not b) (register_flow y.0.c.declaration.sort y.1.flip register) clock

  -- What registers hold next

  module _ (instant : Instant) (fits : Fits z.fitted z.well z.lowered z.is z.driven z.expanded (spots z) (placed z) (match z) (lists z) instant) where
    abbrev run : Valuation
    run = valuation_of (all z) instant

    module _ {path : List ℕ} {n : ℕ} {m : TypedModule} {d : DrivenModule} {names : List ℕ} (leads : Way z path n m d names) (numbers : List ℕ) (are : AreNumbers z.driven (spots z) path n numbers) where
      abbrev inner : Instant
      inner = seen_by (slice_index numbers) instant

      shapes : HasShapes (table_of (known_of z leads).g.leaves) inner
      shapes = inner_fits z.fitted z.well z.lowered z.is z.driven z.expanded (spots z) (placed z) (match z) (lists z) leads numbers are instant fits

      agree_on : (us : List Leaf) (ns : List ℕ) → SameReads m us ns → Agree (scene_at m inner).integers (local m names run) us
      agree_on us ns same = seen_agree z.fitted z.well z.lowered z.is z.driven z.expanded (spots z) (placed z) (match z) (lists z) leads numbers are instant us (λ u h. let r = same.all u h in (r.0, r.1))

      -- the ground statements leave in a leaf what the circuit's do
      left_same : (y : ℕ) (c : Component) (leaf : TypeLeaf) → slice_get (module_leaves m) y ≡ Some (c, leaf) → is_set (c, leaf) ≡ true
          → option_map integer_of (drives inner y (known_of z leads).g.body) ≡ tree_drives.drives (scene_of m names run) (leaf_of c leaf) c.declaration.block
      left_same y c leaf at set =
          let known = known_of z leads in
          known.ground_is.values y (c, leaf) inner at set shapes
          ∙ drives_same (type_in m) (leaf_of c leaf) c.declaration.block (scene_at m inner).integers (local m names run)
          (agree_on (tree_reads.joined (tree_loops.live (type_in m) (leaf_of c leaf) c.declaration.block)) (joined (live y known.g.body)) (known.ground_is.reads y (c, leaf) at set))

      -- a reset holds where the register's does, and `init` is what a reset sets
      reset_holds : (c : Component) (leaf : TypeLeaf) (reset init : Expr) (r : NetReset) → IsReset m (table_of (known_of z leads).g.leaves) (c, leaf) reset init r
          → is_one (value (with_numbers (slice_index numbers) r.reset) instant) ≡ tree.is_one (tree.value reset (scene_of m names run))
      reset_holds c leaf reset init r is =
          ap is_one (renumbered_value (slice_index numbers) instant r.reset)
          ∙ (is.holds inner shapes
          ∙ ap tree.is_one (all_same (tracked reset (type_in m) (scene_at m inner).integers (local m names run)) (agree_on (tree_reads.joined (tree_reads.mentions reset (type_in m))) (mentions r.reset) is.reset_reads)))

      init_left : (c : Component) (leaf : TypeLeaf) (reset init : Expr) (r : NetReset) → IsReset m (table_of (known_of z leads).g.leaves) (c, leaf) reset init r
          → left_in (leaf_of c leaf) None (set_at false (Some (whole (scene_of m names run) c.declaration.name)) (tree.value init (scene_of m names run))) ≡ Some (integer_of (value (with_numbers (slice_index numbers) r.init) instant))
      init_left c leaf reset init r is =
          sym (init_same (type_in m) c.declaration.name (leaf_of c leaf) (scene_at m inner).integers (local m names run) init
          (agree_on (tree_reads.joined (driven_from false (leaf_of c leaf) (tree_reads.mentions init (type_in m)) (Some (whole_region (type_in m) c.declaration.name)))) (mentions r.init) is.init_reads))
          ∙ (is.taken inner shapes ∙ ap (λ v. Some (integer_of v)) (sym (renumbered_value (slice_index numbers) instant r.init)))

    -- what the statements leave in a register's leaf, or else what it holds, is what its driver has
    driven_same : (x : ℕ) (y : Standing) → slice_get (all z) x ≡ Some y → is_register y.0.c.declaration.sort ≡ true
        → or_else (integer_of (instant.leaf x)) (tree_drives.drives (scene_of y.0.m y.0.path run) (leaf_of y.0.c y.1) y.0.c.declaration.block) ≡ driven_or (integer_of (instant.leaf x)) instant (flat_driver z x)
    driven_same x y there register = by (driver_in D.d D.y) refl where
      stands : Stands (design z) y.0.path y.0.m y.0.c y.1
      stands = let L = lists z in (L.stands x y there).0

      clock : is_clock y.1 ≡ false
      clock = register_clock y.0.path y.0.m y.0.c y.1 stands register

      D : DriverOf z y.0.m y.0.path y.0.c y.1 (flat_driver z x)
      D = register_driver x y there register

      held : ℤ
      held = integer_of (instant.leaf x)

      left : Option ℤ
      left = tree_drives.drives (scene_of y.0.m y.0.path run) (leaf_of y.0.c y.1) y.0.c.declaration.block

      seen : Instant
      seen = seen_by (slice_index D.numbers) instant

      body : List GroundStmt
      body = (known_of z D.leads).g.body

      same : option_map integer_of (drives seen D.y body) ≡ left
      same = left_same D.leads D.numbers D.are D.y y.0.c y.1 D.at (register_set y clock register)

      -- the number of the leaf is that of the entry
      itself : slice_index D.numbers D.y ≡ x
      itself =
          let L = lists z in
          let entry = numbered_at z D.leads D.numbers D.are D.y (y.0.c, y.1) D.at in
          L.once (slice_index D.numbers D.y) x entry.0 y entry.1 there (entry.2 ∙ own_flat z y.0.path y.0.m y.0.c y.1 stands.declared (register_target y.0.c.declaration.sort register))

      own : (gl : GroundLeaf) × (gl.role ≡ role_of (y.0.c, y.1)) × Drives gl D.y body (driver_in D.d D.y)
      own = own_drives z y.0.m y.0.path y.0.c y.1 (flat_driver z x) D

      role : own.0.role ≡ Register
      role = own.1 ∙ role_is y.0.c y.1 false true (is_port y.0.c.declaration.sort && is_source (flow_of y.0.c.declaration.sort y.1.flip)) clock register refl

      with_driver : (g : Ground) → IsDriver own.0 D.y body g → flat_driver z x ≡ Some (with_numbers (slice_index D.numbers) g) → (o : Option Value) → drives seen D.y body ≡ o → or_else held left ≡ driven_or held instant (flat_driver z x)
      with_driver g is has None q =
          ap (or_else held) (sym same ∙ ap (option_map integer_of) q)
          ∙ sym (ap (driven_or held instant) has ∙ (ap integer_of (renumbered_value (slice_index D.numbers) instant g ∙ is.keeps role seen q) ∙ ap (λ k. integer_of (instant.leaf k)) itself))
      with_driver g is has (Some v) q =
          ap (or_else held) (sym same ∙ ap (option_map integer_of) q)
          ∙ sym (ap (driven_or held instant) has ∙ ap integer_of (renumbered_value (slice_index D.numbers) instant g ∙ is.has seen v q))

      by : (g : Option Ground) → driver_in D.d D.y ≡ g → or_else held left ≡ driven_or held instant (flat_driver z x)
      by None q =
          let never : IsUndriven D.y body = subst (λ w. Drives own.0 D.y body w) q own.2 in
          ap (or_else held) (sym same ∙ ap (option_map integer_of) (never.never seen))
          ∙ sym (ap (driven_or held instant) (D.has ∙ ap (driver_with D.numbers) q))
      by (Some g) q = with_driver g (subst (λ w. Drives own.0 D.y body w) q own.2) (D.has ∙ ap (driver_with D.numbers) q) (drives seen D.y body) refl

    -- What a register of the flat circuit holds next is what the circuit's does, where it shows what it holds.
    pub next_same : (n : ℕ) (register : NetRegister) (y : Standing) → slice_get z.flat.registers n ≡ Some register → slice_get (all z) register.leaf ≡ Some y
        → tree_states.next_of_register (scene_of y.0.m y.0.path run) y.0.c y.0.c.declaration.sort y.1.path (integer_of (instant.leaf register.leaf))
        ≡ after_reset (driven_or (integer_of (instant.leaf register.leaf)) instant (flat_driver z register.leaf)) instant register.reset
    next_same n register y e there = by y.0.c.declaration.sort refl (reset_of register y R) where
      R : RegisterAt register y
      R = register_at n register e y there

      held : ℤ
      held = integer_of (instant.leaf register.leaf)

      left : Option ℤ
      left = tree_drives.drives (scene_of y.0.m y.0.path run) (leaf_of y.0.c y.1) y.0.c.declaration.block

      left_or : ℤ
      left_or = driven_or held instant (flat_driver z register.leaf)

      same : or_else held left ≡ left_or
      same = driven_same register.leaf y there (is_of_register register y R)

      reset_is : register.reset ≡ option_map (reset_with R.numbers) R.own.reset
      reset_is = ap (λ (w : NetRegister). w.reset) R.is

      with_reset : (reset init : Expr) (r : NetReset) → R.own.reset ≡ Some r → IsReset y.0.m (table_of (known_of z R.leads).g.leaves) (y.0.c, y.1) reset init r
          → or_else held (if tree.is_one (tree.value reset (scene_of y.0.m y.0.path run)) then left_in (leaf_of y.0.c y.1) None (set_at false (Some (whole (scene_of y.0.m y.0.path run) y.0.c.declaration.name)) (tree.value init (scene_of y.0.m y.0.path run))) else left)
          ≡ after_reset left_or instant register.reset
      with_reset reset init r q is =
          let b : Bool = tree.is_one (tree.value reset (scene_of y.0.m y.0.path run)) in
          let i : ℤ = integer_of (value (with_numbers (slice_index R.numbers) r.init) instant) in
          ap (λ w. or_else held (if b then w else left)) (init_left R.leads R.numbers R.are y.0.c y.1 reset init r is)
          ∙ (chosen_or b held i left
          ∙ (ap (λ w. if b then i else w) same
          ∙ (ap (λ w. if w then i else left_or) (sym (reset_holds R.leads R.numbers R.are y.0.c y.1 reset init r is))
          ∙ sym (ap (after_reset left_or instant) (reset_is ∙ ap (option_map (reset_with R.numbers)) q)))))

      by : (sort : Sort) → y.0.c.declaration.sort ≡ sort → HasReset y.0.m (table_of (known_of z R.leads).g.leaves) (y.0.c, y.1) sort R.own.reset
          → tree_states.next_of_register (scene_of y.0.m y.0.path run) y.0.c sort y.1.path held ≡ after_reset left_or instant register.reset
      by (A_register clock) q h = same ∙ sym (ap (after_reset left_or instant) (reset_is ∙ ap (option_map (reset_with R.numbers)) h))
      by (A_reset_register clock reset init) q h = with_reset reset init h.0 h.1 h.2
      by An_input q h = absurd h
      by An_output q h = absurd h
      by A_wire q h = absurd h
      by (A_memory memory) q h = absurd h
      by (An_instance target) q h = absurd h
      by (A_node expr) q h = absurd h
