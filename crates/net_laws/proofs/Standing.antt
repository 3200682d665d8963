-- The entries of the flat order are the components of the run that are no instances.
use Rattle.std.proofs.Common.{◌≡◌, ℕ, zero, suc, ◌+◌, List, [], ◌∷◌, ◌++◌, length, Some, None, option_and_then, refl, sym, ap, ap₂, ◌∙◌, subst, arith, ⊎_elim, append_assoc}
use Rattle.std.specs.Prelude.{Contains}
use Rattle.std.specs.List.{slice_get}
use Rattle.std.proofs.lemmas.List.Concat.{flat_map-cons}
use Rattle.fir_types.specs.declared.leaf.TypeLeaf.{TypeLeaf}
use Rattle.fir_types.specs.Leaves.{leaves}
use Rattle.fir_meaning.specs.Components.{Design, TypedModule, Component, component_named, target_of, target_in, module_at, module_within, module_named, HasBundles}
use Rattle.fir_meaning.proofs.Ports.{at_snoc, inside, target_is, target_sort, component_found, and_then}
use Rattle.net_of_circuit.specs.FlatOrder.{Placed, InFlatOrder, no_more, one_more, an_instance, Standing, all_leaves}
use Rattle.net_laws.proofs.Numbers.{some_same, none_some}
use Rattle.net_laws.proofs.Rows.{leaves_of}
use Rattle.net_laws.proofs.Lists.{place_of, later, map_at, from_map_at, in_append, first_of, second_of, append_nil}

abbrev pub placed_at : List ℕ → TypedModule → Component → Placed
placed_at path m c = record { path = path; m = m; c = c }

-- A component that is no instance has an entry.
pub in_order : (design : Design) (path : List ℕ) (m : TypedModule) (cs : List Component) {placed : List Placed} → InFlatOrder design path m cs placed → (j : ℕ) (c : Component) → slice_get cs j ≡ Some c → target_in c.declaration.sort ≡ None
    → (k : ℕ) × (slice_get placed k ≡ Some (placed_at path m c))
in_order design path m [] no_more j c e none = none_some e
in_order design path m (d ∷ cs) (one_more t f) zero c e none = (0, ap Some (ap (placed_at path m) (some_same e)))
in_order design path m (d ∷ cs) (one_more t f) (suc j) c e none = let r = in_order design path m cs f j c e none in (suc r.0, r.1)
in_order design path m (d ∷ cs) (an_instance target n t found own rest) zero c e none =
    none_some (sym none ∙ (ap (λ (x : Component). target_in x.declaration.sort) (sym (some_same e)) ∙ t))
in_order design path m (d ∷ cs) (an_instance {own = own} {rest = rest} target n t found inner f) (suc j) c e none =
    let r = in_order design path m cs f j c e none in (length own + r.0, second_of own rest r.0 (placed_at path m c) r.1)

-- The own list of an instance stands in the order.
pub record OwnList (design : Design) (path : List ℕ) (c : Component) (target : ℕ) (placed : List Placed) : Type 0 where
  pub n : TypedModule
  pub found : module_named design target ≡ Some n
  pub own : List Placed
  pub order : InFlatOrder design (path ++ c.declaration.name ∷ []) n n.components own
  pub before : ℕ
  pub there : (k : ℕ) (p : Placed) → slice_get own k ≡ Some p → slice_get placed (before + k) ≡ Some p

onward : (first : Placed) (rest : List Placed) (k : ℕ) (p : Placed) (before : ℕ) → slice_get rest (before + k) ≡ Some p → slice_get (first ∷ rest) (suc before + k) ≡ Some p
onward first rest k p before h = let n : suc (before + k) ≡ suc before + k = omega arith in subst (λ i. slice_get (first ∷ rest) i ≡ Some p) n h

pub own_list : (design : Design) (path : List ℕ) (m : TypedModule) (cs : List Component) {placed : List Placed} → InFlatOrder design path m cs placed → (j : ℕ) (c : Component) (target : ℕ) → slice_get cs j ≡ Some c
    → target_in c.declaration.sort ≡ Some target → OwnList design path c target placed
own_list design path m [] no_more j c target e t = none_some e
own_list design path m (d ∷ cs) (one_more none f) zero c target e t = none_some (sym none ∙ (ap (λ (x : Component). target_in x.declaration.sort) (some_same e) ∙ t))
own_list design path m (d ∷ cs) (one_more {rest = rest} none f) (suc j) c target e t =
    let r = own_list design path m cs f j c target e t in
    record { n = r.n; found = r.found; own = r.own; order = r.order; before = suc r.before; there = λ k p h. onward (placed_at path m d) rest k p r.before (r.there k p h) }
own_list design path m (d ∷ cs) {placed} (an_instance {own = own} {rest = rest} other n u found inner f) zero c target e t =
    let same : d ≡ c = some_same e in
    let targets : other ≡ target = some_same (sym u ∙ (ap (λ (x : Component). target_in x.declaration.sort) same ∙ t)) in
    record {
      n = n;
      found = ap (module_named design) (sym targets) ∙ found;
      own = own;
      order = subst (λ (x : Component). InFlatOrder design (path ++ x.declaration.name ∷ []) n n.components own) same inner;
      before = 0;
      there = λ k p h. let n : k ≡ 0 + k = omega arith in subst (λ i. slice_get (own ++ rest) i ≡ Some p) n (first_of own rest k p h);
    }
own_list design path m (d ∷ cs) (an_instance {own = own} {rest = rest} other n u found inner f) (suc j) c target e t =
    let r = own_list design path m cs f j c target e t in
    record {
      n = r.n;
      found = r.found;
      own = r.own;
      order = r.order;
      before = length own + r.before;
      there = λ k p h. let n : length own + (r.before + k) ≡ length own + r.before + k = omega arith in subst (λ i. slice_get (own ++ rest) i ≡ Some p) n (second_of own rest (r.before + k) p (r.there k p h));
    }

-- the module inside an instance of a name
module_inside : (design : Design) (m k : TypedModule) (i : ℕ) (path : List ℕ) → module_within design m (i ∷ path) ≡ Some k
    → (c : Component) × (target : ℕ) × (n : TypedModule) × (component_named m i ≡ Some c) × (target_in c.declaration.sort ≡ Some target) × (module_named design target ≡ Some n) × (module_within design n path ≡ Some k)
module_inside design m k i path e =
    let inner = and_then (λ n. module_within design n path) (option_and_then (module_named design) (target_of m i)) k e in
    let named = and_then (module_named design) (target_of m i) inner.0 inner.1 in
    let c = and_then (λ x. target_in x.declaration.sort) (component_named m i) named.0 named.1 in
    (c.0, named.0, inner.0, c.1, c.2, named.2, inner.2)

pub own_there : (design : Design) (path front : List ℕ) (m k : TypedModule) (c : Component) {placed : List Placed} → InFlatOrder design front m m.components placed → module_within design m path ≡ Some k
    → component_named k c.declaration.name ≡ Some c → target_in c.declaration.sort ≡ None → (j : ℕ) × (slice_get placed j ≡ Some (placed_at (front ++ path) k c))
own_there design [] front m k c {placed} order within named none =
    let same : m ≡ k = some_same within in
    let at = place_of m.components c (component_found m c.declaration.name c (ap (λ x. component_named x c.declaration.name) same ∙ named)).1 in
    let r = in_order design front m m.components order at.0 c at.1 none in
    (r.0, r.1 ∙ ap Some (ap₂ (λ p x. placed_at p x c) (sym (append_nil front)) same))
own_there design (i ∷ path) front m k c {placed} order within named none =
    let inner = module_inside design m k i path within in
    let d : Component = inner.0 in
    let found = component_found m i d inner.3 in
    let at = place_of m.components d found.1 in
    let own = own_list design front m m.components order at.0 d inner.1 at.1 inner.4 in
    let same : own.n ≡ inner.2 = some_same (sym own.found ∙ inner.5) in
    let r = own_there design path (front ++ d.declaration.name ∷ []) own.n k c own.order (ap (λ n. module_within design n path) same ∙ inner.6) named none in
    let longer : (front ++ d.declaration.name ∷ []) ++ path ≡ front ++ i ∷ path = append_assoc front (d.declaration.name ∷ []) path ∙ ap (λ x. front ++ x ∷ path) found.0 in
    (own.before + r.0, own.there r.0 (placed_at ((front ++ d.declaration.name ∷ []) ++ path) k c) r.1 ∙ ap Some (ap (λ p. placed_at p k c) longer))

module _ (design : Design) (has : HasBundles design) where
  -- Each entry is a component of the module at its path.
  pub entry_stands : (path : List ℕ) (m : TypedModule) (cs : List Component) {placed : List Placed} → InFlatOrder design path m cs placed → module_at design path ≡ Some m
      → ((c : Component) → Contains cs c → Contains m.components c) → (k : ℕ) (p : Placed) → slice_get placed k ≡ Some p
      → (module_at design p.path ≡ Some p.m) × (component_named p.m p.c.declaration.name ≡ Some p.c) × (target_in p.c.declaration.sort ≡ None)
  entry_stands path m [] no_more reached all k p e = none_some e
  entry_stands path m (c ∷ cs) (one_more none f) reached all zero p e =
      subst (λ (q : Placed). (module_at design q.path ≡ Some q.m) × (component_named q.m q.c.declaration.name ≡ Some q.c) × (target_in q.c.declaration.sort ≡ None)) (some_same e)
      (reached, has.names path m c reached (all c (0, omega arith, refl)), none)
  entry_stands path m (c ∷ cs) (one_more none f) reached all (suc k) p e = entry_stands path m cs f reached (λ d h. all d (later c cs d h)) k p e
  entry_stands path m (c ∷ cs) (an_instance {own = own} {rest = rest} target n t found inner f) reached all k p e =
      let declared : component_named m c.declaration.name ≡ Some c = has.names path m c reached (all c (0, omega arith, refl)) in
      let behind : module_at design (path ++ c.declaration.name ∷ []) ≡ Some n =
      at_snoc design path c.declaration.name
      ∙ (ap (option_and_then (λ x. inside design x c.declaration.name)) reached
      ∙ (ap (option_and_then (module_named design)) (target_is m c target declared (target_sort c.declaration.sort target t)) ∙ found)) in
      ⊎_elim
      (λ here. entry_stands (path ++ c.declaration.name ∷ []) n n.components inner behind (λ d h. h) k p here)
      (λ there. entry_stands path m cs f reached (λ d h. all d (later c cs d h)) there.0 p there.2)
      (in_append own rest k p e)

-- Leaves

-- where an entry of the leaves stands: its component and the number of the leaf there
pub record Within (placed : List Placed) (x : ℕ) (y : Standing) : Type 0 where
  pub j : ℕ
  pub i : ℕ
  pub there : slice_get placed j ≡ Some y.0
  pub leaf : slice_get (leaves y.0.c.typ) i ≡ Some y.1

pub within : (placed : List Placed) (x : ℕ) (y : Standing) → slice_get (all_leaves placed) x ≡ Some y → Within placed x y
within [] x y e = none_some e
within (p ∷ ps) x y e = ⊎_elim
    (λ here.
    let l = from_map_at (λ leaf. (p, leaf)) (leaves p.c.typ) x y here in
    record { j = 0; i = x; there = ap Some (ap (λ (z : Standing). z.0) l.2); leaf = subst (λ (z : Standing). slice_get (leaves z.0.c.typ) x ≡ Some z.1) l.2 l.1 })
    (λ there. let r = within ps there.0 y there.2 in record { j = suc r.j; i = r.i; there = r.there; leaf = r.leaf })
    (in_append (leaves_of p) (all_leaves ps) x y (subst (λ l. slice_get l x ≡ Some y) (flat_map-cons leaves_of p ps) e))

pub leaf_there : (placed : List Placed) (j : ℕ) (p : Placed) (i : ℕ) (leaf : TypeLeaf) → slice_get placed j ≡ Some p → slice_get (leaves p.c.typ) i ≡ Some leaf → (x : ℕ) × (slice_get (all_leaves placed) x ≡ Some (p, leaf))
leaf_there [] j p i leaf e f = none_some e
leaf_there (q ∷ ps) zero p i leaf e f =
    let same : q ≡ p = some_same e in
    let here : slice_get (leaves_of q) i ≡ Some (p, leaf) = ap (λ z. slice_get (leaves_of z) i) same ∙ map_at (λ l. (p, l)) (leaves p.c.typ) i leaf f in
    (i, ap (λ l. slice_get l i) (flat_map-cons leaves_of q ps) ∙ first_of (leaves_of q) (all_leaves ps) i (p, leaf) here)
leaf_there (q ∷ ps) (suc j) p i leaf e f =
    let r = leaf_there ps j p i leaf e f in
    (length (leaves_of q) + r.0, ap (λ l. slice_get l (length (leaves_of q) + r.0)) (flat_map-cons leaves_of q ps) ∙ second_of (leaves_of q) (all_leaves ps) r.0 (p, leaf) r.1)
