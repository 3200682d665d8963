-- What the driver, the reset and the `init` of a flat register mention is what the edge takes for it.
use Rattle.std.proofs.Common.{◌≡◌, ℕ, true, false, List, [], ◌++◌, map, Option, Some, None, option_map, refl, sym, ap, ap₂, ◌∙◌, subst, arith, slice_index, ⊎_elim}
use Rattle.std.specs.Prelude.{Contains}
use Rattle.std.specs.List.{slice_get}
use Rattle.std.proofs.lemmas.List.Elements.{Contains-append_cases, Contains-append_left, Contains-append_right}
use Rattle.fir_types.specs.declared.leaf.TypeLeaf.{TypeLeaf}
use Rattle.fir_tree.specs.declared.expr.Expr.{Expr}
use Rattle.fir_meaning.specs.Components.{TypedModule, Component, Leaf, FlatLeaf, Sort, An_input, An_output, A_wire, A_register, A_reset_register, A_memory, An_instance, A_node, target_in, type_in, flat}
use Rattle.fir_meaning.specs.Mentions as tree_reads
use Rattle.fir_meaning.specs.Mentions.{whole_region}
use Rattle.fir_meaning.specs.Loops as tree_loops
use Rattle.fir_meaning.specs.Loops.{TakesFrom, by_live_connect, by_reset, by_init, by_write, by_read, driven_from}
use Rattle.fir_meaning.specs.States.{Stands, is_register, leaf_of}
use Rattle.ground_net.specs.declared.ground.Ground.{Ground}
use Rattle.ground_net.specs.declared.net.NetRegister.{NetRegister}
use Rattle.ground_net.specs.declared.net.NetReset.{NetReset}
use Rattle.ground_net.specs.Grounds.{mentions, joined}
use Rattle.ground_net.specs.Statements.{live}
use Rattle.ground_net.specs.Cones.{mentioned_by, mentioned_by_reset}
use Rattle.ground_net.proofs.Layers.{renumbered_mentions}
use Rattle.net_of_circuit.specs.FlatOrder.{Standing, flat_of}
use Rattle.net_of_circuit.specs.NetOf.{Driven, part_of}
use Rattle.net_of_circuit.specs.Numbers.{table_of, SameReads}
use Rattle.net_of_circuit.specs.Lowering.{IsReset, HasReset}
use Rattle.flatten_instances.specs.Numbers.{reset_with}
use Rattle.lowering_laws.proofs.Heights.{some_same}
use Rattle.lowering_laws.proofs.Whole.{Setting, design, lists}
use Rattle.lowering_laws.proofs.Drivers.{all, known_of, flat_driver, DriverOf, only_named, all_named, own_flat, entry_here, only_read, all_read}
use Rattle.lowering_laws.proofs.Registers.{RegisterAt, register_at, reset_of, is_of_register, register_clock, register_driver, register_set, register_target, held_not_driven}

nothing : {A : Type 0} {B : Type 0} (x : A) → Contains [] x → B
nothing x (k, below, is) = absurd (omega arith)

module _ (z : Setting) where
  -- what the driver, the reset and the `init` of a flat register mention
  abbrev pub taken_by : NetRegister → List ℕ
  taken_by register = mentioned_by (flat_driver z register.leaf) ++ mentioned_by_reset register.reset

  abbrev connects : Standing → List Leaf
  connects y = tree_reads.joined (tree_loops.live (type_in y.0.m) (leaf_of y.0.c y.1) y.0.c.declaration.block)

  abbrev resets : Standing → Expr → List Leaf
  resets y reset = tree_reads.joined (tree_reads.mentions reset (type_in y.0.m))

  abbrev inits : Standing → Expr → List Leaf
  inits y init = tree_reads.joined (driven_from false (leaf_of y.0.c y.1) (tree_reads.mentions init (type_in y.0.m)) (Some (whole_region (type_in y.0.m) y.0.c.declaration.name)))

  -- A register of the flat circuit
  module _ (n : ℕ) (register : NetRegister) (y : Standing) (e : slice_get z.flat.registers n ≡ Some register) (there : slice_get (all z) register.leaf ≡ Some y) where
    R : RegisterAt z register y
    R = register_at z n register e y there

    registered : is_register y.0.c.declaration.sort ≡ true
    registered = is_of_register z register y R

    stands : Stands (design z) y.0.path y.0.m y.0.c y.1
    stands = let L = lists z in (L.stands register.leaf y there).0

    is_own : flat y.0.m y.0.path (leaf_of y.0.c y.1) ≡ flat_of y
    is_own = own_flat z y.0.path y.0.m y.0.c y.1 stands.declared (register_target y.0.c.declaration.sort registered)

    D : DriverOf z y.0.m y.0.path y.0.c y.1 (flat_driver z register.leaf)
    D = register_driver z register.leaf y there registered

    connect_reads : SameReads y.0.m (connects y) (joined (live D.y (known_of z D.leads).g.body))
    connect_reads =
        let known = known_of z D.leads in
        known.ground_is.reads D.y (y.0.c, y.1) D.at (register_set z y (register_clock z y.0.path y.0.m y.0.c y.1 stands registered) registered)

    reset_is : register.reset ≡ option_map (reset_with R.numbers) R.own.reset
    reset_is = ap (λ (w : NetRegister). w.reset) R.is

    -- the reset that a register has, with its numbers in the flat circuit
    reset_mentions : (r : NetReset) → R.own.reset ≡ Some r → mentioned_by_reset register.reset ≡ map (slice_index R.numbers) (mentions r.reset) ++ map (slice_index R.numbers) (mentions r.init)
    reset_mentions r q =
        ap mentioned_by_reset (reset_is ∙ ap (option_map (reset_with R.numbers)) q)
        ∙ ap₂ (λ a b. a ++ b) (renumbered_mentions (slice_index R.numbers) r.reset) (renumbered_mentions (slice_index R.numbers) r.init)

    abbrev Has : Sort → Type 0
    Has sort = HasReset y.0.m (table_of (known_of z R.leads).g.leaves) (y.0.c, y.1) sort R.own.reset

    has : Has y.0.c.declaration.sort
    has = reset_of z register y R

    -- Takes alone

    module _ (k : ℕ) (w : Standing) (w_there : slice_get (all z) k ≡ Some w) where
      abbrev Taken : Type 0
      Taken = TakesFrom (design z) (flat_of y) (flat_of w)

      -- a leaf of the module
      takes_it : (u : Leaf) → TakesFrom (design z) (flat y.0.m y.0.path (leaf_of y.0.c y.1)) (flat y.0.m y.0.path u) → flat y.0.m y.0.path u ≡ flat_of w → Taken
      takes_it u t same = subst (λ f. TakesFrom (design z) f (flat_of w)) is_own (subst (λ f. TakesFrom (design z) (flat y.0.m y.0.path (leaf_of y.0.c y.1)) f) same t)

      by_driver : part_of w ≡ Driven → (o : Option Ground) → flat_driver z register.leaf ≡ o → Contains (mentioned_by o) k → Taken
      by_driver part None q h = nothing k h
      by_driver part (Some driver) q h =
          ⊎_elim
          (λ r. takes_it r.0 (by_live_connect y.0.path y.0.m y.0.c y.1 r.0 stands registered r.1) r.2)
          (λ r.
          let L = lists z in
          let same : register.leaf ≡ k = L.once register.leaf k y w there w_there (sym is_own ∙ r.1) in
          let is : y ≡ w = some_same (sym there ∙ (ap (slice_get (all z)) same ∙ w_there)) in
          absurd (held_not_driven y (register_clock z y.0.path y.0.m y.0.c y.1 stands registered) registered (ap part_of is ∙ part)))
          (only_read z y.0.m y.0.path y.0.c y.1 (flat_driver z register.leaf) D (connects y) connect_reads driver q k w h w_there)

      by_its_reset : (sort : Sort) → y.0.c.declaration.sort ≡ sort → Has sort → Contains (mentioned_by_reset register.reset) k → Taken
      by_its_reset (A_register clock) q h c = nothing k (subst (λ o. Contains (mentioned_by_reset o) k) (reset_is ∙ ap (option_map (reset_with R.numbers)) h) c)
      by_its_reset (A_reset_register clock reset init) q h c =
          let it : IsReset y.0.m (table_of (known_of z R.leads).g.leaves) (y.0.c, y.1) reset init h.0 = h.2 in
          ⊎_elim
          (λ l.
          let u = only_named z R.leads R.numbers R.are (resets y reset) (mentions h.0.reset) it.reset_reads k w l w_there in
          takes_it u.0 (by_reset y.0.path y.0.m y.0.c y.1 clock reset init u.0 stands q u.1) u.2)
          (λ r.
          let u = only_named z R.leads R.numbers R.are (inits y init) (mentions h.0.init) it.init_reads k w r w_there in
          takes_it u.0 (by_init y.0.path y.0.m y.0.c y.1 clock reset init u.0 stands q u.1) u.2)
          (Contains-append_cases (map (slice_index R.numbers) (mentions h.0.reset)) (map (slice_index R.numbers) (mentions h.0.init)) k (subst (λ l. Contains l k) (reset_mentions h.0 h.1) c))
      by_its_reset An_input q h c = absurd h
      by_its_reset An_output q h c = absurd h
      by_its_reset A_wire q h c = absurd h
      by_its_reset (A_memory memory) q h c = absurd h
      by_its_reset (An_instance target) q h c = absurd h
      by_its_reset (A_node expr) q h c = absurd h

      -- Of the leaves that a flat register mentions, the edge takes those that are assignments.
      pub only_takes : part_of w ≡ Driven → Contains (taken_by register) k → Taken
      only_takes part h =
          ⊎_elim (λ l. by_driver part (flat_driver z register.leaf) refl l) (λ r. by_its_reset y.0.c.declaration.sort refl has r)
          (Contains-append_cases (mentioned_by (flat_driver z register.leaf)) (mentioned_by_reset register.reset) k h)

    -- All takes

    abbrev HasTaken : FlatLeaf → Type 0
    HasTaken f = (k : ℕ) × (w : Standing) × (slice_get (all z) k ≡ Some w) × (flat_of w ≡ f) × Contains (taken_by register) k

    all_connects : (u : Leaf) → Contains (connects y) u → HasTaken (flat y.0.m y.0.path u)
    all_connects u h =
        let r = all_read z y.0.m y.0.path y.0.c y.1 (flat_driver z register.leaf) D (connects y) connect_reads u h in
        (r.2, r.3, r.4, r.5, Contains-append_left (mentioned_by (flat_driver z register.leaf)) (mentioned_by_reset register.reset) r.2 (subst (λ o. Contains (mentioned_by o) r.2) (sym r.1) r.6))

    all_resets : (clock reset init : Expr) (u : Leaf) → Has (A_reset_register clock reset init) → Contains (resets y reset) u → HasTaken (flat y.0.m y.0.path u)
    all_resets clock reset init u h c =
        let it : IsReset y.0.m (table_of (known_of z R.leads).g.leaves) (y.0.c, y.1) reset init h.0 = h.2 in
        let r = all_named z R.leads R.numbers R.are (resets y reset) (mentions h.0.reset) it.reset_reads u c in (
          r.0,
          r.1,
          r.2,
          r.3,
          Contains-append_right (mentioned_by (flat_driver z register.leaf)) (mentioned_by_reset register.reset) r.0
              (subst (λ l. Contains l r.0) (sym (reset_mentions h.0 h.1)) (Contains-append_left (map (slice_index R.numbers) (mentions h.0.reset)) (map (slice_index R.numbers) (mentions h.0.init)) r.0 r.4)),
        )

    all_inits : (clock reset init : Expr) (u : Leaf) → Has (A_reset_register clock reset init) → Contains (inits y init) u → HasTaken (flat y.0.m y.0.path u)
    all_inits clock reset init u h c =
        let it : IsReset y.0.m (table_of (known_of z R.leads).g.leaves) (y.0.c, y.1) reset init h.0 = h.2 in
        let r = all_named z R.leads R.numbers R.are (inits y init) (mentions h.0.init) it.init_reads u c in (
          r.0,
          r.1,
          r.2,
          r.3,
          Contains-append_right (mentioned_by (flat_driver z register.leaf)) (mentioned_by_reset register.reset) r.0
              (subst (λ l. Contains l r.0) (sym (reset_mentions h.0 h.1)) (Contains-append_right (map (slice_index R.numbers) (mentions h.0.reset)) (map (slice_index R.numbers) (mentions h.0.init)) r.0 r.4)),
        )

    -- what is told of the register by its component and leaf
    sort_of : (path : List ℕ) (m : TypedModule) (c : Component) (leaf : TypeLeaf) → y ≡ (record { path = path; m = m; c = c }, leaf) → (sort : Sort) → c.declaration.sort ≡ sort → Has sort
    sort_of path m c leaf is sort q = subst Has (ap (λ (w : Standing). w.0.c.declaration.sort) is ∙ q) has

    reads_there : (path : List ℕ) (m : TypedModule) (c : Component) (leaf : TypeLeaf) → y ≡ (record { path = path; m = m; c = c }, leaf) → (us : Standing → List Leaf) (u : Leaf) → ((u : Leaf) → Contains (us y) u → HasTaken (flat y.0.m y.0.path u))
        → Contains (us (record { path = path; m = m; c = c }, leaf)) u → HasTaken (flat m path u)
    reads_there path m c leaf is us u all c' =
        subst HasTaken (ap (λ (w : Standing). flat w.0.m w.0.path u) is) (all u (subst (λ w. Contains (us w) u) (sym is) c'))

    takes_of : (a f : FlatLeaf) → TakesFrom (design z) a f → a ≡ flat_of y → HasTaken f
    takes_of a f (by_live_connect path m c leaf u stands' register' h) same =
        let is = entry_here z path m c leaf stands' (register_target c.declaration.sort register') register.leaf y there same in
        reads_there path m c leaf is connects u all_connects h
    takes_of a f (by_reset path m c leaf clock reset init u stands' q h) same =
        let is = entry_here z path m c leaf stands' (ap target_in q) register.leaf y there same in
        let sort = sort_of path m c leaf is (A_reset_register clock reset init) q in
        reads_there path m c leaf is (λ w. resets w reset) u (λ u. all_resets clock reset init u sort) h
    takes_of a f (by_init path m c leaf clock reset init u stands' q h) same =
        let is = entry_here z path m c leaf stands' (ap target_in q) register.leaf y there same in
        let sort = sort_of path m c leaf is (A_reset_register clock reset init) q in
        reads_there path m c leaf is (λ w. inits w init) u (λ u. all_inits clock reset init u sort) h
    takes_of a f (by_write path m c leaf memory port way writer by stands' read among goes) same =
        absurd (sort_of path m c leaf (entry_here z path m c leaf stands' (ap target_in read.sort) register.leaf y there same) (A_memory memory) read.sort)
    takes_of a f (by_read path m c leaf memory name way port by stands' read latency named goes) same =
        absurd (sort_of path m c leaf (entry_here z path m c leaf stands' (ap target_in read.sort) register.leaf y there same) (A_memory memory) read.sort)

    -- Whatever the edge takes for a register, its driver, its reset or its `init` mentions in the flat circuit.
    pub all_takes : (f : FlatLeaf) → TakesFrom (design z) (flat_of y) f → HasTaken f
    all_takes f t = takes_of (flat_of y) f t refl
