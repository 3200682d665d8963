-- The ports of a net are those of its circuit.
use Rattle.std.proofs.Common.{◌≡◌, ℕ, zero, suc, ◌+◌, ◌<◌, ◌&&◌, not, Bool, true, false, cond, List, [], ◌∷◌, ◌++◌, map, filter, length, Option, Some, None, option_map, refl, sym, ap, ap₂, ◌∙◌, subst, arith, if◌then◌else◌, append-nil, slice_get, ⊎_elim}
use Rattle.std.specs.Prelude.{Contains, filter_map}
use Rattle.std.specs.List.{flat_map, range_with_len, cons_option, enumerate_from, AllZip}
use Rattle.std.proofs.lemmas.Grind.{common_steps, flat_map-append}
use Rattle.std.proofs.lemmas.List.{map-append}
use Rattle.std.proofs.lemmas.List.Concat.{flat_map-cons}
use Rattle.fir_types.specs.declared.fir_type.FirType.{FirType}
use Rattle.fir_types.specs.declared.leaf.TypeLeaf.{TypeLeaf}
use Rattle.fir_types.specs.Leaves.{leaves}
use Rattle.fir_tree.specs.LeafNames.{Texts, leaf_text}
use Rattle.fir_meaning.specs.Components.{Design, TypedModule, Component, is_clock, flow_of, module_named}
use Rattle.fir_meaning.specs.States.{is_port, is_source}
use Rattle.fir_meaning.proofs.Settling.{port_target}
use Rattle.ground_net.specs.declared.net.Leaf.{Leaf}
use Rattle.ground_net.specs.declared.net.PortLeaf.{PortLeaf}
use Rattle.ground_net.specs.declared.net.Ports.{Ports}
use Rattle.ground_net.specs.declared.net.Role.{Role}
use Rattle.ground_net.specs.declared.net.Role.TheVariants as role
use Rattle.ground_net.specs.declared.net.Net.{Net}
use Rattle.ground_net.specs.Watching.{is_shown, told_where, port_leaf, inputs, watched, port_names}
use Rattle.ground_net.specs.Watching as watching
use Rattle.net_of_circuit.specs.FlatOrder.{Placed, InFlatOrder, no_more, one_more, an_instance, Standing, all_leaves, ListsLeaves}
use Rattle.net_of_circuit.specs.NetOf.{Part, Given, Without_value, part_of_role, part_of, is_input_of_main, is_of_port, is_of_main, path_text, IsNetWith, IsNetOf}
use Rattle.net_laws.specs.Typed.{HasPortsFirst}
use Rattle.net_laws.specs.Serves.{Serves}
use Rattle.net_laws.proofs.Numbers.{below_length}
use Rattle.net_laws.proofs.Seen.{part_is, port_held, port_late}
use Rattle.net_laws.proofs.Rows.{leaves_of, begins, all_of_append}
use Rattle.circuit_run.specs.Ports.{PortPart, parts_of_port, parts_of_ports, port_parts, is_given, is_watched, given_parts, watched_parts, part_text, IsPortLeaf, ArePortsOf}
use Rattle.circuit_run.proofs.Lists.{some_same, none_some, in_append, in_front, get_item}

-- the place of a component of main
abbrev of_main : TypedModule → Component → Placed
of_main m c = record { path = []; m = m; c = c }

-- a leaf with its component
abbrev pub strip : Standing → PortPart
strip y = (y.0.c, y.1)

later_contains : {A : Type 0} (z : A) (xs : List A) (x : A) → Contains xs x → Contains (z ∷ xs) x
later_contains z xs x (k, below, is) = (suc k, omega arith, is)

-- The ports of main stand first in flat order.
first_ports : (design : Design) (m : TypedModule) (ports others : List Component) → ((c : Component) → Contains ports c → is_port c.declaration.sort ≡ true) → {placed : List Placed}
    → InFlatOrder design [] m (ports ++ others) placed → (rest : List Placed) × (placed ≡ map (of_main m) ports ++ rest) × InFlatOrder design [] m others rest
first_ports design m [] others all {placed} order = (placed, refl, order)
first_ports design m (c ∷ ports) others all (one_more e f) =
    let r = first_ports design m ports others (λ d h. all d (later_contains c ports d h)) f in
    (r.0, ap (λ l. of_main m c ∷ l) r.1, r.2)
first_ports design m (c ∷ ports) others all (an_instance target n e found own rest) =
    none_some (sym (port_target c.declaration.sort (all c (0, omega arith, refl))) ∙ e)

-- What stands behind them is of no port of main.
not_of_main : (design : Design) (m : TypedModule) (others : List Component) → ((c : Component) → Contains others c → is_port c.declaration.sort ≡ false) → {placed : List Placed} → InFlatOrder design [] m others placed
    → (k : ℕ) (p : Placed) → slice_get placed k ≡ Some p → is_of_port p.path p.c ≡ false
not_of_main design m others none no_more k p e = none_some e
not_of_main design m (c ∷ others) none (one_more e f) zero p at =
    ap (λ (q : Placed). is_of_port q.path q.c) (sym (some_same at)) ∙ none c (0, omega arith, refl)
not_of_main design m (c ∷ others) none (one_more e f) (suc k) p at = not_of_main design m others (λ d h. none d (later_contains c others d h)) f k p at
not_of_main design m (c ∷ others) none (an_instance {own = own} {rest = rest} target n e found inside f) k p at = ⊎_elim
    (λ here.
    let b = begins design (c.declaration.name ∷ []) n n.components inside here.0 p here.1 in
    ap (λ path. is_of_port path p.c) b.1)
    (λ there. not_of_main design m others (λ d h. none d (later_contains c others d h)) f there.0 p there.1)
    (in_append own rest k p at)

-- Lists of leaves

filter_none : {A : Type 0} (test : A → Bool) (xs : List A) → ((k : ℕ) (x : A) → slice_get xs k ≡ Some x → test x ≡ false) → filter test xs ≡ []
filter_none test [] h = refl
filter_none test (x ∷ xs) h = let head = h 0 x refl in let rest = filter_none test xs (λ k y e. h (suc k) y e) in grind (arith, common_steps, head, rest)

filter_all : {A : Type 0} (test : A → Bool) (xs : List A) → ((k : ℕ) (x : A) → slice_get xs k ≡ Some x → test x ≡ true) → filter test xs ≡ xs
filter_all test [] h = refl
filter_all test (x ∷ xs) h = let head = h 0 x refl in let rest = filter_all test xs (λ k y e. h (suc k) y e) in grind (arith, common_steps, head, rest)

filter_append : {A : Type 0} (test : A → Bool) (xs ys : List A) → filter test (xs ++ ys) ≡ filter test xs ++ filter test ys
filter_append test [] ys = refl
filter_append {A} test (x ∷ xs) ys = by (test x) (filter_append test xs ys) where
  by : (b : Bool) → filter test (xs ++ ys) ≡ filter test xs ++ filter test ys → cond b (x ∷ filter test (xs ++ ys)) (filter test (xs ++ ys)) ≡ cond b (x ∷ filter test xs) (filter test xs) ++ filter test ys
  by true rest = ap (λ l. x ∷ l) rest
  by false rest = rest

-- an entry of the leaves of components is a leaf of one of them
pub of_component : (ps : List Placed) (k : ℕ) (y : Standing) → slice_get (all_leaves ps) k ≡ Some y → (j : ℕ) × (slice_get ps j ≡ Some y.0)
of_component [] k y e = none_some e
of_component (p ∷ ps) k y e = ⊎_elim
    (λ here. (0, ap Some (of_leaves (leaves p.c.typ) here.0 here.1)))
    (λ there. let r = of_component ps there.0 y there.1 in (suc r.0, r.1))
    (in_append (leaves_of p) (all_leaves ps) k y (subst (λ l. slice_get l k ≡ Some y) (flat_map-cons leaves_of p ps) e))
  where
    of_leaves : (ls : List TypeLeaf) (k : ℕ) → slice_get (map (λ leaf. (p, leaf)) ls) k ≡ Some y → p ≡ y.0
    of_leaves [] k e = none_some e
    of_leaves (l ∷ ls) zero e = ap (λ z. z.0) (some_same e)
    of_leaves (l ∷ ls) (suc k) e = of_leaves ls k e

of_ports : (m : TypedModule) (ports : List Component) → ((c : Component) → Contains ports c → is_port c.declaration.sort ≡ true) → (k : ℕ) (p : Placed) → slice_get (map (of_main m) ports) k ≡ Some p
    → (p.path ≡ []) × (is_port p.c.declaration.sort ≡ true)
of_ports m [] all k p e = none_some e
of_ports m (c ∷ ports) all zero p e =
    let same = some_same e in
    (ap (λ (q : Placed). q.path) (sym same), ap (λ (q : Placed). is_port q.c.declaration.sort) (sym same) ∙ all c (0, omega arith, refl))
of_ports m (c ∷ ports) all (suc k) p e = of_ports m ports (λ d h. all d (later_contains c ports d h)) k p e

-- the parts of ports, and of other components
pairs : (p : Placed) (ls : List TypeLeaf) → map strip (map {B = Standing} (λ leaf. (p, leaf)) ls) ≡ map (λ leaf. (p.c, leaf)) ls
pairs p [] = refl
pairs p (l ∷ ls) = ap (λ r. (p.c, l) ∷ r) (pairs p ls)

parts_are : (m : TypedModule) (ports : List Component) → ((c : Component) → Contains ports c → is_port c.declaration.sort ≡ true) → flat_map parts_of_port ports ≡ map strip (all_leaves (map (of_main m) ports))
parts_are m [] all = refl
parts_are m (c ∷ ports) all =
    let p : Placed = of_main m c in
    let here : parts_of_port c ≡ map (λ leaf. (c, leaf)) (leaves c.typ) = ap (λ b. if b then map (λ leaf. (c, leaf)) (leaves c.typ) else []) (all c (0, omega arith, refl)) in
    ap₂ (λ a b. a ++ b) (here ∙ sym (pairs p (leaves c.typ))) (parts_are m ports (λ d h. all d (later_contains c ports d h)))
    ∙ sym (ap (map strip) (flat_map-cons leaves_of p (map (of_main m) ports)) ∙ map-append strip (leaves_of p) (all_leaves (map (of_main m) ports)))

no_parts : (others : List Component) → ((c : Component) → Contains others c → is_port c.declaration.sort ≡ false) → flat_map parts_of_port others ≡ []
no_parts [] none = refl
no_parts (c ∷ others) none =
    ap₂ (λ a b. a ++ b) (ap (λ b. if b then map (λ leaf. (c, leaf)) (leaves c.typ) else []) (none c (0, omega arith, refl))) (no_parts others (λ d h. none d (later_contains c others d h)))

-- Roles

given_of : Part → Bool
given_of Given = true
given_of _ = false

shown_of : Part → Bool
shown_of Given = false
shown_of Without_value = false
shown_of _ = true

given_role : (r : Role) → watching.is_given r ≡ given_of (part_of_role r)
unfolding given_of
given_role (role.Input n) = refl
given_role role.Clock = refl
given_role role.Assigned = refl
given_role (role.Register n) = refl
given_role (role.Captured n) = refl

shown_role : (r : Role) → is_shown r ≡ shown_of (part_of_role r)
unfolding shown_of
shown_role (role.Input n) = refl
shown_role role.Clock = refl
shown_role role.Assigned = refl
shown_role (role.Register n) = refl
shown_role (role.Captured n) = refl

module _ (y : Standing) (main : y.0.path ≡ []) (port : is_port y.0.c.declaration.sort ≡ true) where
  input : (source : Bool) → is_source (flow_of y.0.c.declaration.sort y.1.flip) ≡ source → is_input_of_main y.0.path y.0.c y.1 ≡ source
  input source e = ap (λ path. is_input_of_main path y.0.c y.1) main ∙ ap₂ (λ a b. a && b) port e

  port_given : given_of (part_of y) ≡ is_given (strip y)
  unfolding given_of
  port_given = by (is_clock y.1) (is_source (flow_of y.0.c.declaration.sort y.1.flip)) refl refl where
    by : (clock source : Bool) → is_clock y.1 ≡ clock → is_source (flow_of y.0.c.declaration.sort y.1.flip) ≡ source → given_of (part_of y) ≡ is_given (strip y)
    by true true k e = ap given_of (part_is y true false true false k (port_held _ port) (input true e) (port_late _ y.1 port)) ∙ sym (ap₂ (λ a b. a && not b) e k)
    by true false k e = ap given_of (part_is y true false false false k (port_held _ port) (input false e) (port_late _ y.1 port)) ∙ sym (ap₂ (λ a b. a && not b) e k)
    by false true k e = ap given_of (part_is y false false true false k (port_held _ port) (input true e) (port_late _ y.1 port)) ∙ sym (ap₂ (λ a b. a && not b) e k)
    by false false k e = ap given_of (part_is y false false false false k (port_held _ port) (input false e) (port_late _ y.1 port)) ∙ sym (ap₂ (λ a b. a && not b) e k)

  port_shown : shown_of (part_of y) ≡ is_watched (strip y)
  unfolding shown_of
  port_shown = by (is_clock y.1) (is_source (flow_of y.0.c.declaration.sort y.1.flip)) refl refl where
    by : (clock source : Bool) → is_clock y.1 ≡ clock → is_source (flow_of y.0.c.declaration.sort y.1.flip) ≡ source → shown_of (part_of y) ≡ is_watched (strip y)
    by true true k e = ap shown_of (part_is y true false true false k (port_held _ port) (input true e) (port_late _ y.1 port)) ∙ sym (ap₂ (λ a b. not a && not b) e k)
    by true false k e = ap shown_of (part_is y true false false false k (port_held _ port) (input false e) (port_late _ y.1 port)) ∙ sym (ap₂ (λ a b. not a && not b) e k)
    by false true k e = ap shown_of (part_is y false false true false k (port_held _ port) (input true e) (port_late _ y.1 port)) ∙ sym (ap₂ (λ a b. not a && not b) e k)
    by false false k e = ap shown_of (part_is y false false false false k (port_held _ port) (input false e) (port_late _ y.1 port)) ∙ sym (ap₂ (λ a b. not a && not b) e k)

module _ (texts : Texts) (design : Design) (placed : List Placed) (elements : List FirType) (net : Net) (is : IsNetWith texts design placed elements net) (lists : ListsLeaves design placed)
    (m : TypedModule) (found : module_named design design.main ≡ Some m) (order : InFlatOrder design [] m m.components placed) (first : HasPortsFirst m) where
  -- the leaves of main's ports
  abbrev pub front : List Standing
  front = all_leaves (map (of_main m) first.ports)

  split : (rest : List Placed) × (placed ≡ map (of_main m) first.ports ++ rest) × InFlatOrder design [] m first.others rest
  split = first_ports design m first.ports first.others first.all (subst (λ cs. InFlatOrder design [] m cs placed) first.are order)

  all_split : all_leaves placed ≡ front ++ all_leaves split.0
  all_split = ap all_leaves split.1 ∙ all_of_append (map (of_main m) first.ports) split.0

  pub front_main : (k : ℕ) (y : Standing) → slice_get front k ≡ Some y → (y.0.path ≡ []) × (is_port y.0.c.declaration.sort ≡ true)
  front_main k y e = let j = of_component (map (of_main m) first.ports) k y e in of_ports m first.ports first.all j.0 y.0 j.1

  ports_counted : net.ports ≡ length front
  ports_counted =
      is.ports ∙ ap length (ap (filter is_of_main) all_split ∙ (filter_append is_of_main front (all_leaves split.0)
      ∙ (ap₂ (λ a b. a ++ b)
      (filter_all is_of_main front (λ k y e. let f = front_main k y e in ap (λ path. is_of_port path y.0.c) f.0 ∙ f.1))
      (filter_none is_of_main (all_leaves split.0) (λ k y e. let j = of_component split.0 k y e in not_of_main design m first.others first.none split.2 j.0 y.0 j.1))
      ∙ append-nil front)))

  pub front_at : (k : ℕ) (y : Standing) → slice_get front k ≡ Some y → slice_get (all_leaves placed) k ≡ Some y
  front_at k y e = ap (λ l. slice_get l k) all_split ∙ in_front front (all_leaves split.0) k y e

  -- The leaves of main's ports are these.
  pub parts_of_front : port_parts design ≡ enumerate_from 0 (map strip front)
  parts_of_front =
      ap (λ o. enumerate_from 0 (parts_of_ports o)) found
      ∙ ap (enumerate_from 0) (ap (flat_map parts_of_port) first.are ∙ (flat_map-append parts_of_port first.ports first.others
      ∙ (ap₂ (λ a b. a ++ b) (parts_are m first.ports first.all) (no_parts first.others first.none) ∙ append-nil (map strip front))))

  -- entries from a place on
  abbrev Entries : ℕ → List Standing → Type 0
  Entries a ys = (k : ℕ) (y : Standing) → slice_get ys k ≡ Some y → slice_get (all_leaves placed) (a + k) ≡ Some y × (y.0.path ≡ []) × (is_port y.0.c.declaration.sort ≡ true)

  later_entries : (a : ℕ) (y : Standing) (ys : List Standing) → Entries a (y ∷ ys) → Entries (a + 1) ys
  later_entries a y ys h = λ k z e. subst (λ n. slice_get (all_leaves placed) n ≡ Some z × (z.0.path ≡ []) × (is_port z.0.c.declaration.sort ≡ true)) (omega arith) (h (suc k) z e)

  front_entries : Entries 0 front
  front_entries = λ k y e. (subst (λ n. slice_get (all_leaves placed) n ≡ Some y) (omega arith) (front_at k y e), (front_main k y e).0, (front_main k y e).1)

  -- the net's leaf of the first entry
  module _ (a : ℕ) (y : Standing) (ys : List Standing) (h : Entries a (y ∷ ys)) where
    here : slice_get (all_leaves placed) a ≡ Some y
    here = subst (λ n. slice_get (all_leaves placed) n ≡ Some y) (omega arith) (h 0 y refl).0

    net_leaf : (leaf : Leaf) × (slice_get net.leaves a ≡ Some leaf)
    net_leaf = get_item net.leaves a (subst (λ n. a < n) (sym is.counted) (below_length (all_leaves placed) a y here))

    part_here : part_of_role net_leaf.0.role ≡ part_of y
    part_here = (is.leaves_are a y net_leaf.0 here net_leaf.1).part

    name_here : net_leaf.0.name ≡ part_text texts (strip y)
    name_here = (is.leaves_are a y net_leaf.0 here net_leaf.1).name ∙ ap (λ path. path_text texts path ++ leaf_text texts y.0.c.declaration.name y.1.path) (h 0 y refl).1

    port_leaf_here : IsPortLeaf texts (a, strip y) (port_leaf a net_leaf.0)
    port_leaf_here = record {
      number = refl;
      name = name_here;
      kind = (is.leaves_are a y net_leaf.0 here net_leaf.1).kind;
      width = (is.leaves_are a y net_leaf.0 here net_leaf.1).width;
    }

  -- The leaves that pass in the net are those that pass in the circuit.
  module _ (among : Role → Bool) (passes : PortPart → Bool)
      (alike : (a : ℕ) (y : Standing) (ys : List Standing) (h : Entries a (y ∷ ys)) → among (net_leaf a y ys h).0.role ≡ passes (strip y)) where
    abbrev told_at : ℕ → Option PortLeaf
    told_at x = told_where among x (slice_get net.leaves x)

    module _ (a : ℕ) (y : Standing) (ys : List Standing) (h : Entries a (y ∷ ys)) where
      abbrev parts_behind : List (ℕ × PortPart)
      parts_behind = filter (λ x. passes x.1) (enumerate_from (a + 1) (map strip ys))

      abbrev told_behind : List PortLeaf
      told_behind = filter_map told_at (range_with_len (a + 1) (length ys))

      told_here : (b : Bool) → passes (strip y) ≡ b → told_at a ≡ (if b then Some (port_leaf a (net_leaf a y ys h).0) else None)
      told_here b e = ap (told_where among a) (net_leaf a y ys h).1 ∙ ap (λ b. if b then Some (port_leaf a (net_leaf a y ys h).0) else None) (alike a y ys h ∙ e)

      zip_one : (b : Bool) → passes (strip y) ≡ b → AllZip (IsPortLeaf texts) parts_behind told_behind
          → AllZip (IsPortLeaf texts) (cond (passes (strip y)) ((a, strip y) ∷ parts_behind) parts_behind) (cons_option (told_at a) told_behind)
      zip_one true e r =
          subst (λ b. AllZip (IsPortLeaf texts) (cond b ((a, strip y) ∷ parts_behind) parts_behind) (cons_option (told_at a) told_behind)) (sym e)
          (subst (λ o. AllZip (IsPortLeaf texts) ((a, strip y) ∷ parts_behind) (cons_option o told_behind)) (sym (told_here true e)) (port_leaf_here a y ys h, r))
      zip_one false e r =
          subst (λ b. AllZip (IsPortLeaf texts) (cond b ((a, strip y) ∷ parts_behind) parts_behind) (cons_option (told_at a) told_behind)) (sym e)
          (subst (λ o. AllZip (IsPortLeaf texts) parts_behind (cons_option o told_behind)) (sym (told_here false e)) r)

    zip_from : (ys : List Standing) (a : ℕ) → Entries a ys → AllZip (IsPortLeaf texts) (filter (λ x. passes x.1) (enumerate_from a (map strip ys))) (filter_map told_at (range_with_len a (length ys)))
    zip_from [] a h = tt
    zip_from (y ∷ ys) a h = zip_one a y ys h (passes (strip y)) refl (zip_from ys (a + 1) (later_entries a y ys h))

    zip_all : AllZip (IsPortLeaf texts) (filter (λ x. passes x.1) (port_parts design)) (filter_map told_at (range_with_len 0 net.ports))
    zip_all =
        subst (λ n. AllZip (IsPortLeaf texts) (filter (λ x. passes x.1) (port_parts design)) (filter_map told_at (range_with_len 0 n))) (sym ports_counted)
        (subst (λ ps. AllZip (IsPortLeaf texts) (filter (λ x. passes x.1) ps) (filter_map told_at (range_with_len 0 (length front)))) (sym parts_of_front)
        (zip_from front 0 front_entries))

  pub inputs_zip : AllZip (IsPortLeaf texts) (given_parts design) (inputs net)
  inputs_zip = zip_all watching.is_given is_given (λ a y ys h. given_role (net_leaf a y ys h).0.role ∙ (ap given_of (part_here a y ys h) ∙ port_given y (h 0 y refl).1 (h 0 y refl).2))

  pub watched_zip : AllZip (IsPortLeaf texts) (watched_parts design) (watched net)
  watched_zip = zip_all is_shown is_watched (λ a y ys h. shown_role (net_leaf a y ys h).0.role ∙ (ap shown_of (part_here a y ys h) ∙ port_shown y (h 0 y refl).1 (h 0 y refl).2))

  names_from : (ys : List Standing) (a : ℕ) → Entries a ys
      → filter_map (λ x. option_map (λ (leaf : Leaf). leaf.name) (slice_get net.leaves x)) (range_with_len a (length ys)) ≡ map (λ x. part_text texts x.1) (enumerate_from a (map strip ys))
  names_from [] a h = refl
  names_from (y ∷ ys) a h =
      ap₂ (λ o r. cons_option o r) (ap (option_map (λ (leaf : Leaf). leaf.name)) (net_leaf a y ys h).1 ∙ ap Some (name_here a y ys h)) (names_from ys (a + 1) (later_entries a y ys h))

  pub names_are : port_names net ≡ map (λ x. part_text texts x.1) (port_parts design)
  names_are =
      ap (λ n. filter_map (λ x. option_map (λ (leaf : Leaf). leaf.name) (slice_get net.leaves x)) (range_with_len 0 n)) ports_counted
      ∙ (names_from front 0 front_entries ∙ ap (map (λ x. part_text texts x.1)) (sym parts_of_front))

module _ (texts : Texts) (design : Design) (net : Net) (serves : Serves texts design net) where
  abbrev of : IsNetOf texts design net
  of = serves.of

  -- The ports of the net are those of the circuit.
  pub ports_of_circuit : (ports : Ports) → ports.inputs ≡ inputs net → ports.watched ≡ watched net → ports.names ≡ port_names net → ArePortsOf texts design ports
  ports_of_circuit ports fed seen named = record {
    inputs = subst (AllZip (IsPortLeaf texts) (given_parts design)) (sym fed) (inputs_zip texts design of.placed of.elements net of.is serves.lists of.main of.found of.order (serves.typed.main of.main of.found));
    watched = subst (AllZip (IsPortLeaf texts) (watched_parts design)) (sym seen) (watched_zip texts design of.placed of.elements net of.is serves.lists of.main of.found of.order (serves.typed.main of.main of.found));
    names = named ∙ names_are texts design of.placed of.elements net of.is serves.lists of.main of.found of.order (serves.typed.main of.main of.found);
  }
