-- What a flat driver mentions is what the leaf of the run reads.
use Rattle.std.proofs.Common.{◌≡◌, ℕ, zero, suc, ◌<◌, ◌&&◌, Bool, true, false, not, List, [], ◌∷◌, ◌++◌, map, Option, Some, None, refl, sym, ap, ap₂, ◌∙◌, subst, arith, if◌then◌else◌, true≢false, ⊎_elim, inl, inr}
use Rattle.std.specs.Prelude.{Contains, ◌⊎◌}
use Rattle.std.specs.List.{slice_get}
use Rattle.fir_types.specs.declared.leaf.TypeLeaf.{TypeLeaf}
use Rattle.fir_types.specs.declared.leaf.PathStep.{PathStep}
use Rattle.fir_types.specs.declared.leaf.PathStep.TheVariants as step
use Rattle.fir_types.specs.declared.memory.Memory.{Memory}
use Rattle.fir_types.specs.Leaves.{leaves}
use Rattle.fir_types.specs.Memories.{read_latency_of}
use Rattle.fir_tree.specs.declared.expr.Expr.{Expr}
use Rattle.fir_meaning.specs.Components.{TypedModule, Component, Leaf, FlatLeaf, Sort, An_input, An_output, A_wire, A_register, A_reset_register, A_memory, An_instance, A_node, target_in, type_in, flat, is_clock, flow_of}
use Rattle.fir_meaning.specs.MemoryPorts.{MemoryPort, port_named}
use Rattle.fir_meaning.specs.Mentions as tree_reads
use Rattle.fir_meaning.specs.Loops as tree_loops
use Rattle.fir_meaning.specs.Loops.{ReadsLeaf, by_connect, by_node, by_port, read_goes_by}
use Rattle.fir_meaning.specs.States.{Stands, is_port, is_register, is_source, is_driven, leaf_of}
use Rattle.fir_meaning.proofs.Settling.{port_target, one_leaf}
use Rattle.fir_meaning.specs.WellTyped.{leaf_shape}
use Rattle.fir_meaning.proofs.Ports.{port_outside, instance_inside, target_sort, component_found}
use Rattle.circuit_laws.proofs.Reached.{known_module}
use Rattle.circuit_laws.proofs.TypedModules.{module_counted}
use Rattle.ground_net.specs.declared.ground.Ground.{Ground}
use Rattle.ground_net.specs.declared.circuit.DrivenModule.{DrivenModule}
use Rattle.ground_net.specs.declared.circuit.GroundLeaf.{GroundLeaf}
use Rattle.ground_net.specs.declared.circuit.GroundRole.{GroundRole}
use Rattle.ground_net.specs.declared.circuit.GroundRole.TheVariants.{Input, Clock, Register, Plain}
use Rattle.ground_net.specs.Grounds.{mentions}
use Rattle.net_of_circuit.specs.FlatOrder.{Standing, flat_of}
use Rattle.net_of_circuit.specs.Numbers.{role_of, is_set}
use Rattle.flatten_instances.specs.Flat.{is_input, role_at}
use Rattle.net_laws.proofs.Lists.{below_length, map_at}
use Rattle.lowering_laws.proofs.Heights.{some_same, none_some}
use Rattle.lowering_laws.proofs.Parts.{item}
use Rattle.lowering_laws.proofs.Matching.{at_main, behind}
use Rattle.lowering_laws.proofs.Whole.{Setting, design, Way, lists, leaf_at}
use Rattle.lowering_laws.proofs.Drivers.{all, flat_driver, K, own_driver, set_driver, own_flat, entry_here, only_read, all_read, role_is, no_port_not_input, port_held, driven_source, driven_register, driven_clock}

-- Roles

abbrev is_plain : GroundRole → Bool
is_plain Plain = true
is_plain _ = false

abbrev is_held : GroundRole → Bool
is_held Register = true
is_held _ = false

plain_stays : (path : List ℕ) (r : GroundRole) → r ≡ Plain → role_at path r ≡ Plain
plain_stays [] r e = e
plain_stays (i ∷ path) r e = ap (role_at (i ∷ path)) e

-- what a plain leaf of the run is in its module
plain_before : (path : List ℕ) (r : GroundRole) → role_at path r ≡ Plain → (r ≡ Plain) ⊎ ((r ≡ Input) × (i : ℕ) × (front : List ℕ) × (path ≡ i ∷ front))
plain_before [] r e = inl e
plain_before (i ∷ path) Input e = inr (refl, i, path, refl)
plain_before (i ∷ path) Clock e = inl e
plain_before (i ∷ path) Register e = inl e
plain_before (i ∷ path) Plain e = inl e

-- the parts of a plain role, and of an input's
plain_parts : (a b c : Bool) → is_plain (if a then Clock else if b then Register else if c then Input else Plain) ≡ true → (a ≡ false) × (b ≡ false) × (c ≡ false)
plain_parts true b c e = absurd (true≢false (sym e))
plain_parts false true c e = absurd (true≢false (sym e))
plain_parts false false true e = absurd (true≢false (sym e))
plain_parts false false false e = (refl, refl, refl)

input_parts : (a b c : Bool) → is_input (if a then Clock else if b then Register else if c then Input else Plain) ≡ true → (a ≡ false) × (b ≡ false) × (c ≡ true)
input_parts true b c e = absurd (true≢false (sym e))
input_parts false true c e = absurd (true≢false (sym e))
input_parts false false true e = (refl, refl, refl)
input_parts false false false e = absurd (true≢false (sym e))

both_true : (a b : Bool) → (a && b) ≡ true → (a ≡ true) × (b ≡ true)
both_true true b e = (refl, e)
both_true false b e = absurd (true≢false (sym e))

and_false : (p s : Bool) → s ≡ false → (p && s) ≡ false
and_false true s e = e
and_false false s e = refl

not_held : (c : Component) (leaf : TypeLeaf) → is_register c.declaration.sort ≡ false → role_of (c, leaf) ≡ Register → ⊥
not_held c leaf r e =
    true≢false (sym (sym (ap is_held (role_is c leaf (is_clock leaf) false (is_port c.declaration.sort && is_source (flow_of c.declaration.sort leaf.flip)) refl r refl) ∙ never (is_clock leaf) (is_port c.declaration.sort && is_source (flow_of c.declaration.sort leaf.flip))) ∙ ap is_held e))
  where
    never : (a b : Bool) → is_held (if a then Clock else if false then Register else if b then Input else Plain) ≡ false
    never true b = refl
    never false true = refl
    never false false = refl

drives_here : (c : Component) (leaf : TypeLeaf) → is_source (flow_of c.declaration.sort leaf.flip) ≡ false → is_register c.declaration.sort ≡ false → is_clock leaf ≡ false → is_driven c leaf ≡ true
drives_here c leaf s r k =
    ap (λ b. not b && (not (is_register c.declaration.sort) && not (is_clock leaf))) s ∙ (ap (λ b. not b && not (is_clock leaf)) r ∙ ap not k)

set_here : (c : Component) (leaf : TypeLeaf) → is_source (flow_of c.declaration.sort leaf.flip) ≡ false → is_clock leaf ≡ false → is_set (c, leaf) ≡ true
set_here c leaf s k = ap₂ (λ a b. not a && not b) s k

-- A leaf that is only read, and whose role is plain, is a node's or a memory's read data.
plain_source : (sort : Sort) (flip : Bool) → is_source (flow_of sort flip) ≡ true → (is_port sort && is_source (flow_of sort flip)) ≡ false → target_in sort ≡ None
    → ((e : Expr) × (sort ≡ A_node e)) ⊎ ((memory : Memory) × (sort ≡ A_memory memory) × (flip ≡ false))
plain_source An_input true s p t = absurd (true≢false (sym s))
plain_source An_input false s p t = absurd (true≢false p)
plain_source An_output true s p t = absurd (true≢false p)
plain_source An_output false s p t = absurd (true≢false (sym s))
plain_source A_wire flip s p t = absurd (true≢false (sym s))
plain_source (A_register clock) flip s p t = absurd (true≢false (sym s))
plain_source (A_reset_register clock reset init) flip s p t = absurd (true≢false (sym s))
plain_source (A_memory memory) true s p t = absurd (true≢false (sym s))
plain_source (A_memory memory) false s p t = inr (memory, refl, refl)
plain_source (An_instance target) flip s p t = none_some (sym t)
plain_source (A_node e) flip s p t = inl (e, refl)

get_there : {A : Type 0} (xs : List A) (x : A) (c : Contains xs x) → slice_get xs c.0 ≡ Some x
get_there [] x (k, below, is) = absurd (omega arith)
get_there (y ∷ ys) x (zero, below, is) = ap Some is
get_there (y ∷ ys) x (suc k, below, is) = get_there ys x (k, omega arith, is)

module _ (z : Setting) where
  -- A leaf that a flat driver mentions: an assignment of the flat circuit reads it.
  pub record HasRead (x : ℕ) (f : FlatLeaf) : Type 0 where
    pub leaf : GroundLeaf
    pub leaf_there : slice_get z.flat.leaves x ≡ Some leaf
    pub role : leaf.role ≡ Plain
    pub driver : Ground
    pub driver_there : flat_driver z x ≡ Some driver
    pub k : ℕ
    pub w : Standing
    pub there : slice_get (all z) k ≡ Some w
    pub is : flat_of w ≡ f
    pub mentioned : Contains (mentions driver) k

  -- A read of latency 0 goes by this leaf of its memory's port.
  pub record IsPortRead (y : Standing) (f : FlatLeaf) : Type 0 where
    pub memory : Memory
    pub port : MemoryPort
    pub name : ℕ
    pub field : ℕ
    pub way : List PathStep
    pub by : ℕ
    pub sort : y.0.c.declaration.sort ≡ A_memory memory
    pub latency : read_latency_of memory ≡ 0
    pub source : y.1.flip ≡ false
    pub path : y.1.path ≡ step.Field name ∷ step.Field field ∷ way
    pub named : port_named memory name ≡ Some port
    pub goes : Contains (read_goes_by port.mode) by
    pub is : f ≡ flat y.0.m y.0.path (record { component = y.0.c.declaration.name; way = step.Field name ∷ step.Field by ∷ [] })

  -- The role of an entry

  -- an input below main is an assignment of the run
  input_below : (path names : List ℕ) (n : ℕ) (m : TypedModule) (d : DrivenModule) (front : List ℕ) (i : ℕ) → Way z path n m d names → names ≡ front ++ i ∷ [] → (r : GroundRole) → r ≡ Input → role_at path r ≡ Plain
  input_below path names n m d front i (at_main main d' at known) e r q = no_snoc front i e where
    no_snoc : {B : Type 0} (xs : List ℕ) (a : ℕ) → [] ≡ xs ++ a ∷ [] → B
    no_snoc [] a e = absurd cc
    no_snoc (x ∷ xs) a e = absurd cc
  input_below path names n m d front i (behind {path = outer} j at target c gi inner child leads part there placed named at' known) e r q = ap (role_at (j ∷ outer)) q

  pub plain_role : (x : ℕ) (y : Standing) (there : slice_get (all z) x ≡ Some y) → role_of (y.0.c, y.1) ≡ Plain → (leaf_at z x y there).leaf.role ≡ Plain
  plain_role x y there e = let at = leaf_at z x y there in at.role ∙ plain_stays at.s.path (role_of (y.0.c, y.1)) e

  -- All reads

  -- a driven leaf
  set_role : (path : List ℕ) (m : TypedModule) (c : Component) (leaf : TypeLeaf) → Stands (design z) path m c leaf → is_driven c leaf ≡ true → (x : ℕ) (y : Standing) (there : slice_get (all z) x ≡ Some y)
      → flat m path (leaf_of c leaf) ≡ flat_of y → (leaf_at z x y there).leaf.role ≡ Plain
  set_role path m c leaf stands driven x y there same = by (target_in c.declaration.sort) refl where
    source : is_source (flow_of c.declaration.sort leaf.flip) ≡ false
    source = driven_source c leaf driven

    turned_of : (target : ℕ) (flip : Bool) → is_source (flow_of (An_instance target) flip) ≡ false → flip ≡ true
    turned_of target true e = refl
    turned_of target false e = absurd (true≢false e)

    by : (t : Option ℕ) → target_in c.declaration.sort ≡ t → (leaf_at z x y there).leaf.role ≡ Plain
    by None q =
        let is : y ≡ (record { path = path; m = m; c = c }, leaf) = entry_here z path m c leaf stands q x y there same in
        plain_role x y there (ap (λ (w : Standing). role_of (w.0.c, w.1)) is
        ∙ role_is c leaf false false false (driven_clock c leaf driven) (driven_register c leaf driven) (and_false (is_port c.declaration.sort) _ source))
    by (Some target) q =
        let sort : c.declaration.sort ≡ An_instance target = target_sort c.declaration.sort target q in
        let in_ = instance_inside (design z) z.well.bundles path m c leaf target stands sort in
        let n : TypedModule = in_.0 in
        let p : Component = in_.1 in
        let part : TypeLeaf = in_.2 in
        let inner = in_.3 in
        let port : is_port p.declaration.sort ≡ true = in_.4 in
        let turned : leaf.flip ≡ true = turned_of target leaf.flip (ap (λ w. is_source (flow_of w leaf.flip)) (sym sort) ∙ source) in
        let names : List ℕ = path ++ c.declaration.name ∷ [] in
        let is : y ≡ (record { path = names; m = n; c = p }, part) =
        entry_here z names n p part inner (port_target p.declaration.sort port) x y there (sym (one_leaf path m n c p leaf part target stands.declared sort inner.declared port in_.6) ∙ same) in
        let input : role_of (p, part) ≡ Input = role_is p part false false true (sym in_.7 ∙ driven_clock c leaf driven) (port_held p.declaration.sort port) (ap₂ (λ a b. a && b) port (in_.5 ∙ turned)) in
        let at = leaf_at z x y there in
        at.role ∙ input_below at.s.path y.0.path at.s.within y.0.m at.at.d path c.declaration.name at.at.leads (ap (λ (w : Standing). w.0.path) is) (role_of (y.0.c, y.1)) (ap (λ (w : Standing). role_of (w.0.c, w.1)) is ∙ input)

  connect_read : (path : List ℕ) (m : TypedModule) (c : Component) (leaf : TypeLeaf) (u : Leaf) → Stands (design z) path m c leaf → is_driven c leaf ≡ true → Contains (tree_reads.joined (tree_loops.live (type_in m) (leaf_of c leaf) c.declaration.block)) u
      → (x : ℕ) (y : Standing) → slice_get (all z) x ≡ Some y → flat m path (leaf_of c leaf) ≡ flat_of y → HasRead x (flat m path u)
  connect_read path m c leaf u stands driven h x y there same =
      let D = set_driver z path m c leaf stands (driven_source c leaf driven) (driven_clock c leaf driven) x y there same in
      let known = K z m path c leaf (flat_driver z x) D in
      let reads = known.ground_is.reads D.y (c, leaf) D.at (set_here c leaf (driven_source c leaf driven) (driven_clock c leaf driven)) in
      let r = all_read z m path c leaf (flat_driver z x) D (tree_reads.joined (tree_loops.live (type_in m) (leaf_of c leaf) c.declaration.block)) reads u h in
      let at = leaf_at z x y there in
      record {
        leaf = at.leaf;
        leaf_there = at.leaf_there;
        role = set_role path m c leaf stands driven x y there same;
        driver = r.0;
        driver_there = r.1;
        k = r.2;
        w = r.3;
        there = r.4;
        is = r.5;
        mentioned = r.6;
      }

  -- a node
  node_read : (x : ℕ) (y : Standing) (e : Expr) (k : ℕ) (mentioned : List Leaf) (u : Leaf) → slice_get (all z) x ≡ Some y → y.0.c.declaration.sort ≡ A_node e → is_clock y.1 ≡ false → slice_get (leaves y.0.c.typ) k ≡ Some y.1
      → slice_get (tree_reads.mentions e (type_in y.0.m)) k ≡ Some mentioned → Contains mentioned u → HasRead x (flat y.0.m y.0.path u)
  node_read x y e k mentioned u there sort clock kth mth h =
      let D = own_driver z x y there (no_port_not_input y.0.c y.1 (ap is_port sort)) in
      let known = K z y.0.m y.0.path y.0.c y.1 (flat_driver z x) D in
      let reads = known.ground_is.node_reads D.y (y.0.c, y.1) e k mentioned D.at sort clock kth mth in
      let r = all_read z y.0.m y.0.path y.0.c y.1 (flat_driver z x) D mentioned reads u h in
      let at = leaf_at z x y there in
      record {
        leaf = at.leaf;
        leaf_there = at.leaf_there;
        role = plain_role x y there (role_is y.0.c y.1 false false false clock (ap is_register sort) (ap (λ w. w && is_source (flow_of y.0.c.declaration.sort y.1.flip)) (ap is_port sort)));
        driver = r.0;
        driver_there = r.1;
        k = r.2;
        w = r.3;
        there = r.4;
        is = r.5;
        mentioned = r.6;
      }

  own_of : (path : List ℕ) (m : TypedModule) (c : Component) (leaf : TypeLeaf) → Stands (design z) path m c leaf → target_in c.declaration.sort ≡ None → (x : ℕ) (y : Standing) → slice_get (all z) x ≡ Some y → flat m path (leaf_of c leaf) ≡ flat_of y
      → (P : Standing → Type 0) → P (record { path = path; m = m; c = c }, leaf) → P y
  own_of path m c leaf stands none x y there same P p = subst P (sym (entry_here z path m c leaf stands none x y there same)) p

  reads_of : (a f : FlatLeaf) → ReadsLeaf (design z) a f → (x : ℕ) (y : Standing) → slice_get (all z) x ≡ Some y → a ≡ flat_of y → HasRead x f ⊎ IsPortRead y f
  reads_of a f (by_connect path m c leaf u stands driven h) x y there same = inl (connect_read path m c leaf u stands driven h x y there same)
  reads_of a f (by_node path m c leaf e k mentioned u stands sort clock kth mth h) x y there same =
      let is : y ≡ (record { path = path; m = m; c = c }, leaf) = entry_here z path m c leaf stands (ap target_in sort) x y there same in
      inl (node_read x (record { path = path; m = m; c = c }, leaf) e k mentioned u (there ∙ ap Some is) sort clock kth mth h)
  reads_of a f (by_port path m c leaf memory port name field way stands sort latency source way_is named by goes) x y there same =
      inr (own_of path m c leaf stands (ap target_in sort) x y there same (λ w. IsPortRead w (flat m path (record { component = c.declaration.name; way = step.Field name ∷ step.Field by ∷ [] }))) (record {
        memory = memory;
        port = port;
        name = name;
        field = field;
        way = way;
        by = by;
        sort = sort;
        latency = latency;
        source = source;
        path = way_is;
        named = named;
        goes = goes;
        is = refl;
      }))

  -- Whatever a leaf of the run reads, its flat driver mentions, but for what a read of latency 0 goes by.
  pub all_reads : (x : ℕ) (y : Standing) (f : FlatLeaf) → slice_get (all z) x ≡ Some y → ReadsLeaf (design z) (flat_of y) f → HasRead x f ⊎ IsPortRead y f
  all_reads x y f there r = reads_of (flat_of y) f r x y there refl

  -- Read data of a memory

  no_node : (sort : Sort) (e : Expr) (memory : Memory) → sort ≡ A_node e → sort ≡ A_memory memory → ⊥
  no_node sort e memory p q = differs (sym p ∙ q) where
    is_node : Sort → Bool
    is_node (A_node e) = true
    is_node _ = false

    differs : A_node e ≡ A_memory memory → ⊥
    differs d = true≢false (ap is_node d)

  no_port : (sort : Sort) (memory : Memory) → sort ≡ A_memory memory → is_port sort ≡ true → ⊥
  no_port sort memory q p = true≢false (sym p ∙ ap is_port q)

  -- read data are no leaf that statements decide
  data_not_driven : (path : List ℕ) (m : TypedModule) (c : Component) (leaf : TypeLeaf) → Stands (design z) path m c leaf → is_driven c leaf ≡ true → (x : ℕ) (y : Standing) → slice_get (all z) x ≡ Some y → flat m path (leaf_of c leaf) ≡ flat_of y
      → (memory : Memory) → y.0.c.declaration.sort ≡ A_memory memory → y.1.flip ≡ false → ⊥
  data_not_driven path m c leaf stands driven x y there same memory sort_is turned = by (target_in c.declaration.sort) refl where
    by : (t : Option ℕ) → target_in c.declaration.sort ≡ t → ⊥
    by None q =
        let is : y ≡ (record { path = path; m = m; c = c }, leaf) = entry_here z path m c leaf stands q x y there same in
        true≢false (sym (ap₂ (λ s b. is_source (flow_of s b)) sort_is turned) ∙ (ap (λ (w : Standing). is_source (flow_of w.0.c.declaration.sort w.1.flip)) is ∙ driven_source c leaf driven))
    by (Some target) q =
        let sort : c.declaration.sort ≡ An_instance target = target_sort c.declaration.sort target q in
        let in_ = instance_inside (design z) z.well.bundles path m c leaf target stands sort in
        let n : TypedModule = in_.0 in
        let p : Component = in_.1 in
        let part : TypeLeaf = in_.2 in
        let inner = in_.3 in
        let port : is_port p.declaration.sort ≡ true = in_.4 in
        let names : List ℕ = path ++ c.declaration.name ∷ [] in
        let is : y ≡ (record { path = names; m = n; c = p }, part) =
        entry_here z names n p part inner (port_target p.declaration.sort port) x y there (sym (one_leaf path m n c p leaf part target stands.declared sort inner.declared port in_.6) ∙ same) in
        no_port p.declaration.sort memory (sym (ap (λ (w : Standing). w.0.c.declaration.sort) is) ∙ sort_is) port

  data_of : (a f : FlatLeaf) → ReadsLeaf (design z) a f → (x : ℕ) (y : Standing) → slice_get (all z) x ≡ Some y → a ≡ flat_of y → (memory : Memory) → y.0.c.declaration.sort ≡ A_memory memory → y.1.flip ≡ false → IsPortRead y f
  data_of a f (by_connect path m c leaf u stands driven h) x y there same memory sort_is turned = absurd (data_not_driven path m c leaf stands driven x y there same memory sort_is turned)
  data_of a f (by_node path m c leaf e k mentioned u stands sort clock kth mth h) x y there same memory sort_is turned =
      let is : y ≡ (record { path = path; m = m; c = c }, leaf) = entry_here z path m c leaf stands (ap target_in sort) x y there same in
      absurd (no_node c.declaration.sort e memory sort (sym (ap (λ (w : Standing). w.0.c.declaration.sort) is) ∙ sort_is))
  data_of a f (by_port path m c leaf memory' port name field way stands sort latency source way_is named by goes) x y there same memory sort_is turned =
      own_of path m c leaf stands (ap target_in sort) x y there same (λ w. IsPortRead w (flat m path (record { component = c.declaration.name; way = step.Field name ∷ step.Field by ∷ [] }))) (record {
        memory = memory';
        port = port;
        name = name;
        field = field;
        way = way;
        by = by;
        sort = sort;
        latency = latency;
        source = source;
        path = way_is;
        named = named;
        goes = goes;
        is = refl;
      })

  -- Read data of a memory read what a read of latency 0 goes by, and nothing else.
  pub data_reads : (x : ℕ) (y : Standing) (f : FlatLeaf) → slice_get (all z) x ≡ Some y → (memory : Memory) → y.0.c.declaration.sort ≡ A_memory memory → y.1.flip ≡ false → ReadsLeaf (design z) (flat_of y) f → IsPortRead y f
  data_reads x y f there memory sort turned r = data_of (flat_of y) f r x y there refl memory sort turned

  -- Such a read is one of the circuit.
  pub port_reads : (x : ℕ) (y : Standing) (f : FlatLeaf) → slice_get (all z) x ≡ Some y → IsPortRead y f → ReadsLeaf (design z) (flat_of y) f
  port_reads x y f there r =
      let L = lists z in
      let stands = (L.stands x y there).0 in
      subst (λ a. ReadsLeaf (design z) a f) (own_flat z y.0.path y.0.m y.0.c y.1 stands.declared (ap target_in r.sort))
      (subst (λ b. ReadsLeaf (design z) (flat y.0.m y.0.path (leaf_of y.0.c y.1)) b) (sym r.is) (by_port y.0.path y.0.m y.0.c y.1 r.memory r.port r.name r.field r.way stands r.sort r.latency r.source r.path r.named r.by r.goes))

  -- Reads alone

  -- what the driver of a leaf that statements decide mentions
  connect_only : (path : List ℕ) (m : TypedModule) (c : Component) (leaf : TypeLeaf) → Stands (design z) path m c leaf → is_driven c leaf ≡ true → (x k : ℕ) (y w : Standing) (driver : Ground) → slice_get (all z) x ≡ Some y
      → flat m path (leaf_of c leaf) ≡ flat_of y → slice_get (all z) k ≡ Some w → flat_driver z x ≡ Some driver → Contains (mentions driver) k → ReadsLeaf (design z) (flat_of y) (flat_of w)
  connect_only path m c leaf stands driven x k y w driver there same w_there has h =
      let D = set_driver z path m c leaf stands (driven_source c leaf driven) (driven_clock c leaf driven) x y there same in
      let known = K z m path c leaf (flat_driver z x) D in
      let us = tree_reads.joined (tree_loops.live (type_in m) (leaf_of c leaf) c.declaration.block) in
      let reads = known.ground_is.reads D.y (c, leaf) D.at (set_here c leaf (driven_source c leaf driven) (driven_clock c leaf driven)) in
      ⊎_elim
      (λ r. subst (λ f. ReadsLeaf (design z) f (flat_of w)) same (subst (λ f. ReadsLeaf (design z) (flat m path (leaf_of c leaf)) f) r.2 (by_connect path m c leaf r.0 stands driven r.1)))
      (λ r. absurd (not_held c leaf (driven_register c leaf driven) r.0))
      (only_read z m path c leaf (flat_driver z x) D us reads driver has k w h w_there)

  -- what a node's expression mentions for a leaf
  mentioned_at : (y : Standing) (e : Expr) → Stands (design z) y.0.path y.0.m y.0.c y.1 → y.0.c.declaration.sort ≡ A_node e → (k : ℕ) → slice_get (leaves y.0.c.typ) k ≡ Some y.1 → (mentioned : List Leaf) × (slice_get (tree_reads.mentions e (type_in y.0.m)) k ≡ Some mentioned)
  mentioned_at y e stands sort k kth =
      let it = known_module z.fitted z.well y.0.path y.0.m stands.reached in
      let typed = it.typed.nodes y.0.c e (component_found y.0.m y.0.c.declaration.name y.0.c stands.declared).1 sort in
      let counted = module_counted it.holder y.0.m it.typed e _ typed in
      item (tree_reads.mentions e (type_in y.0.m)) k (subst (λ w. k < w) (sym counted) (below_length (map leaf_shape (leaves y.0.c.typ)) k (leaf_shape y.1) (map_at leaf_shape (leaves y.0.c.typ) k y.1 kth)))

  -- what the driver of a node's leaf mentions
  node_only : (x k : ℕ) (y w : Standing) (e : Expr) (driver : Ground) → slice_get (all z) x ≡ Some y → y.0.c.declaration.sort ≡ A_node e → is_clock y.1 ≡ false
      → slice_get (all z) k ≡ Some w → flat_driver z x ≡ Some driver → Contains (mentions driver) k → ReadsLeaf (design z) (flat_of y) (flat_of w)
  node_only x k y w e driver there sort clock w_there has h =
      let L = lists z in
      let stands = (L.stands x y there).0 in
      let D = own_driver z x y there (no_port_not_input y.0.c y.1 (ap is_port sort)) in
      let known = K z y.0.m y.0.path y.0.c y.1 (flat_driver z x) D in
      let kth = get_there (leaves y.0.c.typ) y.1 stands.listed in
      let mth = mentioned_at y e stands sort stands.listed.0 kth in
      let reads = known.ground_is.node_reads D.y (y.0.c, y.1) e stands.listed.0 mth.0 D.at sort clock kth mth.1 in
      ⊎_elim
      (λ r. subst (λ f. ReadsLeaf (design z) f (flat_of w)) (own_flat z y.0.path y.0.m y.0.c y.1 stands.declared (ap target_in sort))
      (subst (λ f. ReadsLeaf (design z) (flat y.0.m y.0.path (leaf_of y.0.c y.1)) f) r.2 (by_node y.0.path y.0.m y.0.c y.1 e stands.listed.0 mth.0 r.0 stands sort clock kth mth.1 r.1)))
      (λ r. absurd (not_held y.0.c y.1 (ap is_register sort) r.0))
      (only_read z y.0.m y.0.path y.0.c y.1 (flat_driver z x) D mth.0 reads driver has k w h w_there)

  -- an own leaf
  own_only : (x k : ℕ) (y w : Standing) (driver : Ground) → slice_get (all z) x ≡ Some y → slice_get (all z) k ≡ Some w → role_of (y.0.c, y.1) ≡ Plain → ((memory : Memory) → y.0.c.declaration.sort ≡ A_memory memory → y.1.flip ≡ false → ⊥)
      → flat_driver z x ≡ Some driver → Contains (mentions driver) k → ReadsLeaf (design z) (flat_of y) (flat_of w)
  own_only x k y w driver there w_there role no_data has h = by (is_source (flow_of y.0.c.declaration.sort y.1.flip)) refl where
    stands : Stands (design z) y.0.path y.0.m y.0.c y.1
    stands = let L = lists z in (L.stands x y there).0

    none : target_in y.0.c.declaration.sort ≡ None
    none = let L = lists z in (L.stands x y there).1

    parts : (is_clock y.1 ≡ false) × (is_register y.0.c.declaration.sort ≡ false) × ((is_port y.0.c.declaration.sort && is_source (flow_of y.0.c.declaration.sort y.1.flip)) ≡ false)
    parts = plain_parts (is_clock y.1) (is_register y.0.c.declaration.sort) (is_port y.0.c.declaration.sort && is_source (flow_of y.0.c.declaration.sort y.1.flip)) (ap is_plain role)

    by : (b : Bool) → is_source (flow_of y.0.c.declaration.sort y.1.flip) ≡ b → ReadsLeaf (design z) (flat_of y) (flat_of w)
    by false q =
        connect_only y.0.path y.0.m y.0.c y.1 stands (drives_here y.0.c y.1 q parts.1 parts.0) x k y w driver there (own_flat z y.0.path y.0.m y.0.c y.1 stands.declared none) w_there has h
    by true q = ⊎_elim
        (λ e. node_only x k y w e.0 driver there e.1 parts.0 w_there has h)
        (λ e. absurd (no_data e.0 e.1 e.2))
        (plain_source y.0.c.declaration.sort y.1.flip q parts.2 none)

  -- an input of an instance
  input_only : (x k : ℕ) (y w : Standing) (driver : Ground) → slice_get (all z) x ≡ Some y → slice_get (all z) k ≡ Some w → role_of (y.0.c, y.1) ≡ Input → (front : List ℕ) (i : ℕ) → y.0.path ≡ front ++ i ∷ []
      → flat_driver z x ≡ Some driver → Contains (mentions driver) k → ReadsLeaf (design z) (flat_of y) (flat_of w)
  input_only x k y w driver there w_there role front i path_is has h =
      let L = lists z in
      let stands = (L.stands x y there).0 in
      let parts = input_parts (is_clock y.1) (is_register y.0.c.declaration.sort) (is_port y.0.c.declaration.sort && is_source (flow_of y.0.c.declaration.sort y.1.flip)) (ap is_input role) in
      let both = both_true _ _ parts.2 in
      let inner : Stands (design z) (front ++ i ∷ []) y.0.m y.0.c y.1 = subst (λ p. Stands (design z) p y.0.m y.0.c y.1) path_is stands in
      let out = port_outside (design z) z.well.bundles front i y.0.m y.0.c y.1 inner both.0 in
      let m : TypedModule = out.0 in
      let c : Component = out.1 in
      let leaf : TypeLeaf = out.2 in
      let target : ℕ = out.3 in
      let outer = out.4 in
      let sort : c.declaration.sort ≡ An_instance target = out.6 in
      let turned : leaf.flip ≡ true = out.7 ∙ both.1 in
      let source : is_source (flow_of c.declaration.sort leaf.flip) ≡ false = ap₂ (λ s b. is_source (flow_of s b)) sort turned in
      let driven : is_driven c leaf ≡ true = drives_here c leaf source (ap is_register sort) (out.9 ∙ parts.0) in
      let same : flat m front (leaf_of c leaf) ≡ flat_of y =
      one_leaf front m y.0.m c y.0.c leaf y.1 target outer.declared sort stands.declared both.0 out.8
      ∙ (ap (λ j. flat y.0.m (front ++ j ∷ []) (leaf_of y.0.c y.1)) out.5 ∙ (ap (λ p. flat y.0.m p (leaf_of y.0.c y.1)) (sym path_is) ∙ own_flat z y.0.path y.0.m y.0.c y.1 stands.declared (L.stands x y there).1)) in
      connect_only front m c leaf outer driven x k y w driver there same w_there has h

  -- where the path of an entry leads behind an instance
  path_behind : (path names : List ℕ) (n : ℕ) (m : TypedModule) (d : DrivenModule) (j : ℕ) (rest : List ℕ) → Way z path n m d names → path ≡ j ∷ rest → (front : List ℕ) × (i : ℕ) × (names ≡ front ++ i ∷ [])
  path_behind path names n m d j rest (at_main main d' at known) e = absurd cc
  path_behind path names n m d j rest (behind {names = outer} i at target c gi inner child leads part there placed named at' known) e = (outer, c.declaration.name, refl)

  -- What the driver of an assignment of the flat circuit mentions, its leaf reads, where the leaf is no read data of a memory.
  pub only_reads : (x k : ℕ) (y w : Standing) (leaf : GroundLeaf) (driver : Ground) → slice_get (all z) x ≡ Some y → slice_get (all z) k ≡ Some w → slice_get z.flat.leaves x ≡ Some leaf → leaf.role ≡ Plain
      → ((memory : Memory) → y.0.c.declaration.sort ≡ A_memory memory → y.1.flip ≡ false → ⊥) → flat_driver z x ≡ Some driver → Contains (mentions driver) k → ReadsLeaf (design z) (flat_of y) (flat_of w)
  only_reads x k y w leaf driver there w_there leaf_there role no_data has h =
      let at = leaf_at z x y there in
      let same : at.leaf ≡ leaf = some_same (sym at.leaf_there ∙ leaf_there) in
      let role' : role_at at.s.path (role_of (y.0.c, y.1)) ≡ Plain = sym at.role ∙ (ap (λ (l : GroundLeaf). l.role) same ∙ role) in
      ⊎_elim
      (λ plain. own_only x k y w driver there w_there plain no_data has h)
      (λ input.
      let p = path_behind at.s.path y.0.path at.s.within y.0.m at.at.d input.1 input.2 at.at.leads input.3 in
      input_only x k y w driver there w_there input.0 p.0 p.1 p.2 has h)
      (plain_before at.s.path (role_of (y.0.c, y.1)) role')
