-- What the load of a read of latency 0 mentions is what the read goes by.
use Rattle.std.proofs.Common.{◌≡◌, ℕ, zero, suc, ◌==◌, false, List, [], ◌∷◌, ◌++◌, map, Option, Some, None, refl, sym, ap, ap₂, ◌∙◌, subst, arith}
use Rattle.std.specs.Prelude.{Contains}
use Rattle.std.specs.List.{slice_get}
use Rattle.std.proofs.lemmas.List.Concat.{flat_map-cons}
use Rattle.fir_types.specs.declared.fir_type.FirType.{FirType}
use Rattle.fir_types.specs.declared.leaf.PathStep.{PathStep}
use Rattle.fir_types.specs.declared.leaf.PathStep.TheVariants as step
use Rattle.fir_types.specs.declared.memory.Memory.{Memory}
use Rattle.fir_types.specs.declared.memory.PortMode.{PortMode}
use Rattle.fir_types.specs.declared.memory.PortMode.TheVariants as mode
use Rattle.fir_types.specs.Memories.{read_latency_of}
use Rattle.fir_types.specs.Bundles.{addr_name, en_name, wmode_name}
use Rattle.fir_meaning.specs.Components.{FlatLeaf, Sort, A_memory, target_in, flat}
use Rattle.fir_meaning.specs.MemoryPorts.{MemoryPort, memory_ports, port_named}
use Rattle.fir_meaning.specs.Loops.{ReadsLeaf, read_goes_by}
use Rattle.fir_meaning.proofs.Ports.{found, same_number}
use Rattle.ground_net.specs.declared.ground.Ground.{Ground}
use Rattle.ground_net.specs.declared.ground.Ground.TheVariants as expression
use Rattle.ground_net.specs.declared.net.NetPort.{NetPort}
use Rattle.ground_net.specs.Grounds.{mentions, joined}
use Rattle.ground_net.proofs.Layers.{mentions-Const, mentions-Leaf, mentions-Mux, mentions-Load}
use Rattle.net_of_circuit.specs.FlatOrder.{Standing, flat_of}
use Rattle.net_of_circuit.specs.NetOf.{Names, IsPortOf, has_mode}
use Rattle.memory_ports.specs.Placing.{zero_bit, reading, load_of}
use Rattle.lowering_laws.proofs.Heights.{some_same}
use Rattle.lowering_laws.proofs.Whole.{Setting, design, lists}
use Rattle.lowering_laws.proofs.Drivers.{all, own_flat}
use Rattle.lowering_laws.proofs.Reading.{IsPortRead, port_reads}

-- the leaves that a load goes by
abbrev pub load_leaves : NetPort → Option ℕ → List ℕ
load_leaves np None = np.addr ∷ np.en ∷ []
load_leaves np (Some wmode) = np.addr ∷ wmode ∷ np.en ∷ []

one_more : (g : Ground) (gs : List Ground) → joined (map mentions (g ∷ gs)) ≡ mentions g ++ joined (map mentions gs)
one_more g gs = flat_map-cons (λ l. l) (mentions g) (map mentions gs)

mentions_reading : (en : ℕ) (o : Option ℕ) (addr : ℕ) (np : NetPort) → np.addr ≡ addr → np.en ≡ en → addr ∷ (mentions (reading en o) ++ []) ≡ load_leaves np o
mentions_reading en None addr np a e = ap₂ (λ u v. u ∷ v) (sym a) (ap (λ l. l ++ []) (mentions-Leaf en) ∙ ap (λ v. v ∷ []) (sym e))
mentions_reading en (Some wmode) addr np a e =
    let both : joined (map mentions (expression.Leaf wmode ∷ expression.Const zero_bit ∷ expression.Leaf en ∷ [])) ≡ wmode ∷ en ∷ [] =
    one_more (expression.Leaf wmode) (expression.Const zero_bit ∷ expression.Leaf en ∷ [])
    ∙ ap₂ (λ u v. u ++ v) (mentions-Leaf wmode)
    (one_more (expression.Const zero_bit) (expression.Leaf en ∷ []) ∙ ap₂ (λ u v. u ++ v) (mentions-Const zero_bit) (one_more (expression.Leaf en) [] ∙ ap (λ l. l ++ []) (mentions-Leaf en))) in
    ap₂ (λ u v. u ∷ v) (sym a) (ap (λ l. l ++ []) (mentions-Mux (expression.Leaf wmode ∷ expression.Const zero_bit ∷ expression.Leaf en ∷ []) ∙ both) ∙ ap (λ v. wmode ∷ v ∷ []) (sym e))

pub mentions_load : (m k : ℕ) (np : NetPort) → mentions (load_of m k np) ≡ load_leaves np np.mode
mentions_load m k np =
    mentions-Load m k (expression.Leaf np.addr ∷ reading np.en np.mode ∷ [])
    ∙ (one_more (expression.Leaf np.addr) (reading np.en np.mode ∷ [])
    ∙ (ap₂ (λ u v. u ++ v) (mentions-Leaf np.addr) (one_more (reading np.en np.mode) []) ∙ mentions_reading np.en np.mode np.addr np refl refl))

goes_addr : (md : PortMode) → Contains (read_goes_by md) addr_name
goes_addr mode.Reader = (0, omega arith, refl)
goes_addr mode.Writer = (0, omega arith, refl)
goes_addr mode.ReadWriter = (0, omega arith, refl)

goes_en : (md : PortMode) → Contains (read_goes_by md) en_name
goes_en mode.Reader = (1, omega arith, refl)
goes_en mode.Writer = (1, omega arith, refl)
goes_en mode.ReadWriter = (1, omega arith, refl)

pub memory_same : (memory other : Memory) → A_memory memory ≡ A_memory other → memory ≡ other
memory_same memory other e = some_same (ap of e) where
  of : Sort → Option Memory
  of (A_memory memory) = Some memory
  of _ = None

first_step : {a b c d : ℕ} {v w : List PathStep} → step.Field a ∷ step.Field b ∷ v ≡ step.Field c ∷ step.Field d ∷ w → a ≡ c
first_step e = cc

module _ (z : Setting) (x : ℕ) (y : Standing) (there : slice_get (all z) x ≡ Some y) (memory : Memory) (sort : y.0.c.declaration.sort ≡ A_memory memory) (latency : read_latency_of memory ≡ 0) (source : y.1.flip ≡ false)
    (name field : ℕ) (way : List PathStep) (path : y.1.path ≡ step.Field name ∷ step.Field field ∷ way) (port : MemoryPort) (named : port_named memory name ≡ Some port) (element : FirType) (np : NetPort) (of : IsPortOf (all z) y.0 memory element port np) where
  name_is : port.name ≡ name
  name_is = same_number port.name name (found (λ p. p.name == name) (memory_ports memory) port named).0

  -- the leaf of a field of the port
  field_is : (by x : ℕ) → Names (all z) y.0 (step.Field port.name ∷ step.Field by ∷ []) x → (w : Standing) → slice_get (all z) x ≡ Some w
      → flat_of w ≡ flat y.0.m y.0.path (record { component = y.0.c.declaration.name; way = step.Field name ∷ step.Field by ∷ [] })
  field_is by x names w w_there =
      let L = lists z in
      let is : (y.0, names.leaf) ≡ w = some_same (sym names.there ∙ w_there) in
      let outer = (L.stands x (y.0, names.leaf) names.there).0 in
      sym (ap flat_of is)
      ∙ (sym (own_flat z y.0.path y.0.m y.0.c names.leaf outer.declared (ap target_in sort))
      ∙ ap (λ v. flat y.0.m y.0.path (record { component = y.0.c.declaration.name; way = v })) (names.is ∙ ap (λ i. step.Field i ∷ step.Field by ∷ []) name_is))

  reads_field : (by number : ℕ) → Contains (read_goes_by port.mode) by → Names (all z) y.0 (step.Field port.name ∷ step.Field by ∷ []) number → (j : ℕ) (w : Standing) → slice_get (all z) j ≡ Some w → number ≡ j
      → ReadsLeaf (design z) (flat_of y) (flat_of w)
  reads_field by number goes names j w w_there e =
      port_reads z x y (flat_of w) there (record {
        memory = memory;
        port = port;
        name = name;
        field = field;
        way = way;
        by = by;
        sort = sort;
        latency = latency;
        source = source;
        path = path;
        named = named;
        goes = goes;
        is = field_is by number names w (ap (slice_get (all z)) e ∙ w_there);
      })

  -- What the load mentions, the leaf reads.
  pub load_only : (m k j : ℕ) (w : Standing) → slice_get (all z) j ≡ Some w → Contains (mentions (load_of m k np)) j → ReadsLeaf (design z) (flat_of y) (flat_of w)
  load_only m k j w w_there h = by port.mode refl (subst (λ l. Contains l j) (mentions_load m k np) h) where
    two : Contains (np.addr ∷ np.en ∷ []) j → ReadsLeaf (design z) (flat_of y) (flat_of w)
    two (zero, below, is) = reads_field addr_name np.addr (goes_addr port.mode) of.addr j w w_there is
    two (suc zero, below, is) = reads_field en_name np.en (goes_en port.mode) of.en j w w_there is
    two (suc (suc i), below, is) = absurd (omega arith)

    three : (wmode : ℕ) → Contains (read_goes_by port.mode) wmode_name → Names (all z) y.0 (step.Field port.name ∷ step.Field wmode_name ∷ []) wmode → Contains (np.addr ∷ wmode ∷ np.en ∷ []) j → ReadsLeaf (design z) (flat_of y) (flat_of w)
    three wmode goes names (zero, below, is) = reads_field addr_name np.addr (goes_addr port.mode) of.addr j w w_there is
    three wmode goes names (suc zero, below, is) = reads_field wmode_name wmode goes names j w w_there is
    three wmode goes names (suc (suc zero), below, is) = reads_field en_name np.en (goes_en port.mode) of.en j w w_there is
    three wmode goes names (suc (suc (suc i)), below, is) = absurd (omega arith)

    by : (md : PortMode) → port.mode ≡ md → Contains (load_leaves np np.mode) j → ReadsLeaf (design z) (flat_of y) (flat_of w)
    by mode.Reader q c = two (subst (λ o. Contains (load_leaves np o) j) (of.no_mode (ap has_mode q)) c)
    by mode.Writer q c = two (subst (λ o. Contains (load_leaves np o) j) (of.no_mode (ap has_mode q)) c)
    by mode.ReadWriter q c =
        let m = of.mode (ap has_mode q) in
        three m.0 (subst (λ md. Contains (read_goes_by md) wmode_name) (sym q) (2, omega arith, refl)) m.2 (subst (λ o. Contains (load_leaves np o) j) m.1 c)

  abbrev Mentioned : ℕ → ℕ → FlatLeaf → Type 0
  Mentioned m k f = (j : ℕ) × (w : Standing) × (slice_get (all z) j ≡ Some w) × (flat_of w ≡ f) × Contains (mentions (load_of m k np)) j

  -- What the leaf reads, the load mentions.
  pub load_all : (m k : ℕ) (f : FlatLeaf) → IsPortRead z y f → Mentioned m k f
  load_all m k f r = by port.mode refl (subst (λ (p : MemoryPort). Contains (read_goes_by p.mode) r.by) port_same r.goes) where
    memory_is : r.memory ≡ memory
    memory_is = memory_same r.memory memory (sym r.sort ∙ sort)

    port_same : r.port ≡ port
    port_same = some_same (sym r.named ∙ (ap₂ port_named memory_is (first_step (sym r.path ∙ path)) ∙ named))

    named_field : (by number : ℕ) → r.by ≡ by → Names (all z) y.0 (step.Field port.name ∷ step.Field by ∷ []) number → Contains (load_leaves np np.mode) number → Mentioned m k f
    named_field by number e names c = (
      number,
      (y.0, names.leaf),
      names.there,
      field_is by number names (y.0, names.leaf) names.there
          ∙ (ap₂ (λ i b. flat y.0.m y.0.path (record { component = y.0.c.declaration.name; way = step.Field i ∷ step.Field b ∷ [] })) (sym (first_step (sym r.path ∙ path))) (sym e) ∙ sym r.is),
      subst (λ l. Contains l number) (sym (mentions_load m k np)) c,
    )

    without : np.mode ≡ None → Contains (addr_name ∷ en_name ∷ []) r.by → Mentioned m k f
    without q (zero, below, is) = named_field addr_name np.addr (sym is) of.addr (subst (λ o. Contains (load_leaves np o) np.addr) (sym q) (0, omega arith, refl))
    without q (suc zero, below, is) = named_field en_name np.en (sym is) of.en (subst (λ o. Contains (load_leaves np o) np.en) (sym q) (1, omega arith, refl))
    without q (suc (suc i), below, is) = absurd (omega arith)

    with_mode : (wmode : ℕ) → np.mode ≡ Some wmode → Names (all z) y.0 (step.Field port.name ∷ step.Field wmode_name ∷ []) wmode → Contains (addr_name ∷ en_name ∷ wmode_name ∷ []) r.by → Mentioned m k f
    with_mode wmode q names (zero, below, is) = named_field addr_name np.addr (sym is) of.addr (subst (λ o. Contains (load_leaves np o) np.addr) (sym q) (0, omega arith, refl))
    with_mode wmode q names (suc zero, below, is) = named_field en_name np.en (sym is) of.en (subst (λ o. Contains (load_leaves np o) np.en) (sym q) (2, omega arith, refl))
    with_mode wmode q names (suc (suc zero), below, is) = named_field wmode_name wmode (sym is) names (subst (λ o. Contains (load_leaves np o) wmode) (sym q) (1, omega arith, refl))
    with_mode wmode q names (suc (suc (suc i)), below, is) = absurd (omega arith)

    by : (md : PortMode) → port.mode ≡ md → Contains (read_goes_by port.mode) r.by → Mentioned m k f
    by mode.Reader q c = without (of.no_mode (ap has_mode q)) (subst (λ md. Contains (read_goes_by md) r.by) q c)
    by mode.Writer q c = without (of.no_mode (ap has_mode q)) (subst (λ md. Contains (read_goes_by md) r.by) q c)
    by mode.ReadWriter q c = let m' = of.mode (ap has_mode q) in with_mode m'.0 m'.1 m'.2 (subst (λ md. Contains (read_goes_by md) r.by) q c)
