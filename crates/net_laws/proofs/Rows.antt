-- The watched leaves of a net are those of the circuit, in order.
use Rattle.std.proofs.Common.{◌≡◌, ℕ, zero, suc, ◌+◌, ◌<◌, ◌&&◌, not, Bool, true, false, cond, List, [], ◌∷◌, ◌++◌, map, filter, filter_map, length, Option, Some, None, ℤ, refl, sym, ap, ap₂, ◌∙◌, subst, arith, if◌then◌else◌, append_assoc, ◌⊎◌, inl, inr, ⊎_elim}
use Rattle.std.specs.Prelude.{Contains}
use Rattle.std.specs.List.{slice_get, flat_map, range_with_len, cons_option}
use Rattle.std.proofs.lemmas.Grind.{common_steps, flat_map-append}
use Rattle.std.proofs.lemmas.List.Concat.{flat_map-cons}
use Rattle.bit_words.specs.Values.{integer_of}
use Rattle.fir_types.specs.declared.leaf.TypeLeaf.{TypeLeaf}
use Rattle.fir_types.specs.Leaves.{leaves}
use Rattle.fir_tree.specs.LeafNames.{Texts}
use Rattle.fir_types.specs.declared.fir_type.FirType.{FirType}
use Rattle.fir_meaning.specs.Components.{Design, TypedModule, Component, Leaf, is_clock, flow_of, module_named}
use Rattle.fir_meaning.specs.Values.{Valuation}
use Rattle.fir_meaning.specs.States.{is_port, is_source, is_register, leaf_of, watched_of_component, watched_of}
use Rattle.fir_meaning.specs.States as tree
use Rattle.fir_meaning.proofs.Settling.{at, port_target}
use Rattle.ground_net.specs.declared.net.Leaf.{Leaf as NetLeaf}
use Rattle.ground_net.specs.declared.net.PortLeaf.{PortLeaf}
use Rattle.ground_net.specs.declared.net.Role.{Role}
use Rattle.ground_net.specs.declared.net.Role.TheVariants as role
use Rattle.ground_net.specs.declared.net.Net.{Net}
use Rattle.ground_net.specs.Watching.{is_shown, told_where, port_leaf, watched}
use Rattle.ground_net.specs.Cycles.{NetState, instant_of}
use Rattle.ground_net.specs.Cycles as cycle
use Rattle.net_of_circuit.specs.FlatOrder.{Placed, InFlatOrder, no_more, one_more, an_instance, Standing, all_leaves, flat_of, ListsLeaves}
use Rattle.net_of_circuit.specs.NetOf.{Part, Given, Without_value, part_of_role, part_of, is_input_of_main, is_of_port, is_of_main, IsNetWith, seen_valuation}
use Rattle.net_laws.specs.Typed.{HasPortsFirst}
use Rattle.net_laws.proofs.Numbers.{some_same, none_some, below_length, valuation_at}
use Rattle.net_laws.proofs.Seen.{part_is, port_held, port_late, get_item}

append_nil : {A : Type 0} (xs : List A) → xs ++ [] ≡ xs
append_nil [] = refl
append_nil (x ∷ xs) = ap (λ l. x ∷ l) (append_nil xs)

-- an item of two lists stands in the first or in the second
in_append : {A : Type 0} (xs ys : List A) (k : ℕ) (x : A) → slice_get (xs ++ ys) k ≡ Some x → ((j : ℕ) × (slice_get xs j ≡ Some x)) ⊎ ((j : ℕ) × (slice_get ys j ≡ Some x))
in_append [] ys k x e = inr (k, e)
in_append (z ∷ xs) ys zero x e = inl (0, e)
in_append (z ∷ xs) ys (suc k) x e = ⊎_elim (λ here. inl (suc here.0, here.1)) (λ there. inr there) (in_append xs ys k x e)

-- the place of a component of main, and of one with its leaves
abbrev of_main : TypedModule → Component → Placed
of_main m c = record { path = []; m = m; c = c }

abbrev pub leaves_of : Placed → List Standing
leaves_of p = map (λ leaf. (p, leaf)) (leaves p.c.typ)

later_contains : {A : Type 0} (z : A) (xs : List A) (x : A) → Contains xs x → Contains (z ∷ xs) x
later_contains z xs x (k, below, is) = (suc k, omega arith, is)

-- The ports of main stand first in flat order.
first_ports : (design : Design) (m : TypedModule) (ports others : List Component) → ((c : Component) → Contains ports c → is_port c.declaration.sort ≡ true) → {placed : List Placed}
    → InFlatOrder design [] m (ports ++ others) placed → (rest : List Placed) × (placed ≡ map (of_main m) ports ++ rest) × InFlatOrder design [] m others rest
first_ports design m [] others all {placed} order = (placed, refl, order)
first_ports design m (c ∷ ports) others all (one_more e f) =
    let r = first_ports design m ports others (λ d h. all d (later_contains c ports d h)) f in
    (r.0, ap (λ l. of_main m c ∷ l) r.1, r.2)
first_ports design m (c ∷ ports) others all (an_instance target n e found own rest) =
    none_some (sym (port_target c.declaration.sort (all c (0, omega arith, refl))) ∙ e)

-- What stands behind them is of no port of main.
path_of_own : (path : List ℕ) (i : ℕ) (c : Component) → is_of_port (path ++ i ∷ []) c ≡ false
path_of_own [] i c = refl
path_of_own (j ∷ path) i c = refl

abbrev NotOfMain : Placed → Type 0
NotOfMain p = is_of_port p.path p.c ≡ false

abbrev pub Longer : List ℕ → List ℕ → Type 0
Longer path other = (more : List ℕ) × (other ≡ path ++ more)

-- paths begin with that of the module
pub begins : (design : Design) (path : List ℕ) (m : TypedModule) (cs : List Component) {placed : List Placed} → InFlatOrder design path m cs placed → (k : ℕ) (p : Placed) → slice_get placed k ≡ Some p → Longer path p.path
begins design path m cs no_more k p e = none_some e
begins design path m (c ∷ cs) (one_more e f) zero p at = ([], ap (λ (q : Placed). q.path) (sym (some_same at)) ∙ sym (append_nil path))
begins design path m (c ∷ cs) (one_more e f) (suc k) p at = begins design path m cs f k p at
begins design path m (c ∷ cs) (an_instance {own = own} {rest = rest} target n e found inside f) k p at = ⊎_elim
    (λ here.
    let b = begins design (path ++ c.declaration.name ∷ []) n n.components inside here.0 p here.1 in
    (c.declaration.name ∷ b.0, b.1 ∙ append_assoc path (c.declaration.name ∷ []) b.0))
    (λ there. begins design path m cs f there.0 p there.1)
    (in_append own rest k p at)

not_of_main : (design : Design) (m : TypedModule) (others : List Component) → ((c : Component) → Contains others c → is_port c.declaration.sort ≡ false) → {placed : List Placed} → InFlatOrder design [] m others placed
    → (k : ℕ) (p : Placed) → slice_get placed k ≡ Some p → NotOfMain p
not_of_main design m others none no_more k p e = none_some e
not_of_main design m (c ∷ others) none (one_more e f) zero p at =
    ap (λ (q : Placed). is_of_port q.path q.c) (sym (some_same at)) ∙ none c (0, omega arith, refl)
not_of_main design m (c ∷ others) none (one_more e f) (suc k) p at = not_of_main design m others (λ d h. none d (later_contains c others d h)) f k p at
not_of_main design m (c ∷ others) none (an_instance {own = own} {rest = rest} target n e found inside f) k p at = ⊎_elim
    (λ here.
    let b = begins design (c.declaration.name ∷ []) n n.components inside here.0 p here.1 in
    ap (λ path. is_of_port path p.c) b.1)
    (λ there. not_of_main design m others (λ d h. none d (later_contains c others d h)) f there.0 p there.1)
    (in_append own rest k p at)

-- Leaves

pub all_of_append : (ps qs : List Placed) → all_leaves (ps ++ qs) ≡ all_leaves ps ++ all_leaves qs
all_of_append ps qs = flat_map-append leaves_of ps qs

filter_none : {A : Type 0} (test : A → Bool) (xs : List A) → ((k : ℕ) (x : A) → slice_get xs k ≡ Some x → test x ≡ false) → filter test xs ≡ []
filter_none test [] h = refl
filter_none test (x ∷ xs) h = let head = h 0 x refl in let rest = filter_none test xs (λ k y e. h (suc k) y e) in grind (arith, common_steps, head, rest)

filter_all : {A : Type 0} (test : A → Bool) (xs : List A) → ((k : ℕ) (x : A) → slice_get xs k ≡ Some x → test x ≡ true) → filter test xs ≡ xs
filter_all test [] h = refl
filter_all test (x ∷ xs) h = let head = h 0 x refl in let rest = filter_all test xs (λ k y e. h (suc k) y e) in grind (arith, common_steps, head, rest)

filter_append : {A : Type 0} (test : A → Bool) (xs ys : List A) → filter test (xs ++ ys) ≡ filter test xs ++ filter test ys
filter_append test [] ys = refl
filter_append {A} test (x ∷ xs) ys = by (test x) refl (filter_append test xs ys) where
  by : (b : Bool) → test x ≡ b → filter test (xs ++ ys) ≡ filter test xs ++ filter test ys → filter test ((x ∷ xs) ++ ys) ≡ filter test (x ∷ xs) ++ filter test ys
  by true e rest = grind (arith, common_steps, e, rest)
  by false e rest = grind (arith, common_steps, e, rest)

-- an entry of the leaves of components is a leaf of one of them
of_component : (ps : List Placed) (k : ℕ) (y : Standing) → slice_get (all_leaves ps) k ≡ Some y → (j : ℕ) × (slice_get ps j ≡ Some y.0)
of_component [] k y e = none_some e
of_component (p ∷ ps) k y e = ⊎_elim
    (λ here. (0, ap Some (of_leaves (leaves p.c.typ) here.0 here.1)))
    (λ there. let r = of_component ps there.0 y there.1 in (suc r.0, r.1))
    (in_append (leaves_of p) (all_leaves ps) k y (subst (λ l. slice_get l k ≡ Some y) (flat_map-cons leaves_of p ps) e))
  where
    of_leaves : (ls : List TypeLeaf) (k : ℕ) → slice_get (map (λ leaf. (p, leaf)) ls) k ≡ Some y → p ≡ y.0
    of_leaves [] k e = none_some e
    of_leaves (l ∷ ls) zero e = ap (λ z. z.0) (some_same e)
    of_leaves (l ∷ ls) (suc k) e = of_leaves ls k e

of_ports : (m : TypedModule) (ports : List Component) → ((c : Component) → Contains ports c → is_port c.declaration.sort ≡ true) → (k : ℕ) (p : Placed) → slice_get (map (of_main m) ports) k ≡ Some p
    → (p.path ≡ []) × (is_port p.c.declaration.sort ≡ true)
of_ports m [] all k p e = none_some e
of_ports m (c ∷ ports) all zero p e =
    let same = some_same e in
    (ap (λ (q : Placed). q.path) (sym same), ap (λ (q : Placed). is_port q.c.declaration.sort) (sym same) ∙ all c (0, omega arith, refl))
of_ports m (c ∷ ports) all (suc k) p e = of_ports m ports (λ d h. all d (later_contains c ports d h)) k p e

-- What is watched

shown_of : Part → Bool
shown_of Given = false
shown_of Without_value = false
shown_of _ = true

shown_part : (r : Role) → is_shown r ≡ shown_of (part_of_role r)
unfolding shown_of
shown_part (role.Input n) = refl
shown_part role.Clock = refl
shown_part role.Assigned = refl
shown_part (role.Register n) = refl
shown_part (role.Captured n) = refl

-- a sink of main that is no Clock
abbrev is_watched : Standing → Bool
is_watched y = not (is_source (flow_of y.0.c.declaration.sort y.1.flip)) && not (is_clock y.1)

port_shown : (y : Standing) → y.0.path ≡ [] → is_port y.0.c.declaration.sort ≡ true → shown_of (part_of y) ≡ is_watched y
unfolding shown_of
port_shown y main port = by (is_clock y.1) (is_source (flow_of y.0.c.declaration.sort y.1.flip)) refl refl where
  input : (source : Bool) → is_source (flow_of y.0.c.declaration.sort y.1.flip) ≡ source → is_input_of_main y.0.path y.0.c y.1 ≡ source
  input source e = ap (λ path. is_input_of_main path y.0.c y.1) main ∙ ap₂ (λ a b. a && b) port e

  by : (clock source : Bool) → is_clock y.1 ≡ clock → is_source (flow_of y.0.c.declaration.sort y.1.flip) ≡ source → shown_of (part_of y) ≡ is_watched y
  by true true k e = ap shown_of (part_is y true false true false k (port_held _ port) (input true e) (port_late _ y.1 port)) ∙ sym (ap₂ (λ a b. not a && not b) e k)
  by true false k e = ap shown_of (part_is y true false false false k (port_held _ port) (input false e) (port_late _ y.1 port)) ∙ sym (ap₂ (λ a b. not a && not b) e k)
  by false true k e = ap shown_of (part_is y false false true false k (port_held _ port) (input true e) (port_late _ y.1 port)) ∙ sym (ap₂ (λ a b. not a && not b) e k)
  by false false k e = ap shown_of (part_is y false false false false k (port_held _ port) (input false e) (port_late _ y.1 port)) ∙ sym (ap₂ (λ a b. not a && not b) e k)

filter_map_in : {A B : Type 0} (test : B → Bool) (h : A → B) (xs : List A) → filter test (map h xs) ≡ map h (filter (λ x. test (h x)) xs)
filter_map_in test h [] = refl
filter_map_in {A} test h (x ∷ xs) = by (test (h x)) refl (filter_map_in test h xs) where
  by : (b : Bool) → test (h x) ≡ b → filter test (map h xs) ≡ map h (filter (λ x. test (h x)) xs) → filter test (map h (x ∷ xs)) ≡ map h (filter (λ x. test (h x)) (x ∷ xs))
  by true e rest = grind (arith, common_steps, e, rest)
  by false e rest = grind (arith, common_steps, e, rest)

pub map_map : {A B C : Type 0} (f : B → C) (g : A → B) (xs : List A) → map f (map g xs) ≡ map (λ x. f (g x)) xs
map_map f g [] = refl
map_map f g (x ∷ xs) = ap (λ l. f (g x) ∷ l) (map_map f g xs)

map_append : {A B : Type 0} (f : A → B) (xs ys : List A) → map f (xs ++ ys) ≡ map f xs ++ map f ys
map_append f [] ys = refl
map_append f (x ∷ xs) ys = ap (λ l. f x ∷ l) (map_append f xs ys)

no_watched : (others : List Component) → ((c : Component) → Contains others c → is_port c.declaration.sort ≡ false) → flat_map watched_of_component others ≡ []
no_watched [] none = refl
no_watched (c ∷ others) none =
    flat_map-cons watched_of_component c others
    ∙ ap₂ (λ a b. a ++ b) (ap (λ b. if b then map (leaf_of c) (filter (λ leaf. not (is_source (flow_of c.declaration.sort leaf.flip)) && not (is_clock leaf)) (leaves c.typ)) else []) (none c (0, omega arith, refl)))
    (no_watched others (λ d h. none d (later_contains c others d h)))

watched_ports : (m : TypedModule) (rho : Valuation) (ports : List Component) → ((c : Component) → Contains ports c → is_port c.declaration.sort ≡ true)
    → map (λ leaf. rho [] leaf.component leaf.way) (flat_map watched_of_component ports) ≡ map (λ y. at rho (flat_of y)) (filter is_watched (all_leaves (map (of_main m) ports)))
watched_ports m rho [] all = refl
watched_ports m rho (c ∷ ports) all =
    let p : Placed = of_main m c in
    let show : TypeLeaf → Bool = λ leaf. not (is_source (flow_of c.declaration.sort leaf.flip)) && not (is_clock leaf) in
    let F : Leaf → ℤ = λ leaf. rho [] leaf.component leaf.way in
    let G : Standing → ℤ = λ y. at rho (flat_of y) in
    let here : watched_of_component c ≡ map (leaf_of c) (filter show (leaves c.typ)) = ap (λ b. if b then map (leaf_of c) (filter show (leaves c.typ)) else []) (all c (0, omega arith, refl)) in
    let own : map F (watched_of_component c) ≡ map G (filter is_watched (leaves_of p)) =
    ap (map F) here ∙ (map_map F (leaf_of c) (filter show (leaves c.typ)) ∙ sym (ap (map G) (filter_map_in is_watched (λ leaf. (p, leaf)) (leaves c.typ)) ∙ map_map G (λ leaf. (p, leaf)) (filter show (leaves c.typ)))) in
    let rest = watched_ports m rho ports (λ d h. all d (later_contains c ports d h)) in
    ap (map F) (flat_map-cons watched_of_component c ports)
    ∙ (map_append F (watched_of_component c) (flat_map watched_of_component ports)
    ∙ (ap₂ (λ a b. a ++ b) own rest
    ∙ sym (ap (λ l. map G (filter is_watched l)) (flat_map-cons leaves_of p (map (of_main m) ports))
    ∙ (ap (map G) (filter_append is_watched (leaves_of p) (all_leaves (map (of_main m) ports)))
    ∙ map_append G (filter is_watched (leaves_of p)) (filter is_watched (all_leaves (map (of_main m) ports)))))))

module _ (texts : Texts) (design : Design) (placed : List Placed) (elements : List FirType) (net : Net) (is : IsNetWith texts design placed elements net) (lists : ListsLeaves design placed)
    (m : TypedModule) (found : module_named design design.main ≡ Some m) (order : InFlatOrder design [] m m.components placed) (first : HasPortsFirst m) where
  abbrev front : List Standing
  front = all_leaves (map (of_main m) first.ports)

  split : (rest : List Placed) × (placed ≡ map (of_main m) first.ports ++ rest) × InFlatOrder design [] m first.others rest
  split = first_ports design m first.ports first.others first.all (subst (λ cs. InFlatOrder design [] m cs placed) first.are order)

  all_split : all_leaves placed ≡ front ++ all_leaves split.0
  all_split = ap all_leaves split.1 ∙ all_of_append (map (of_main m) first.ports) split.0

  front_main : (k : ℕ) (y : Standing) → slice_get front k ≡ Some y → (y.0.path ≡ []) × (is_port y.0.c.declaration.sort ≡ true)
  front_main k y e = let j = of_component (map (of_main m) first.ports) k y e in of_ports m first.ports first.all j.0 y.0 j.1

  ports_counted : net.ports ≡ length front
  ports_counted =
      is.ports ∙ ap length (ap (filter is_of_main) all_split ∙ (filter_append is_of_main front (all_leaves split.0)
      ∙ (ap₂ (λ a b. a ++ b)
      (filter_all is_of_main front (λ k y e. let f = front_main k y e in ap (λ path. is_of_port path y.0.c) f.0 ∙ f.1))
      (filter_none is_of_main (all_leaves split.0) (λ k y e. let j = of_component split.0 k y e in not_of_main design m first.others first.none split.2 j.0 y.0 j.1))
      ∙ append_nil front)))

  in_front : (xs ys : List Standing) (k : ℕ) (y : Standing) → slice_get xs k ≡ Some y → slice_get (xs ++ ys) k ≡ Some y
  in_front [] ys k y e = none_some e
  in_front (x ∷ xs) ys zero y e = e
  in_front (x ∷ xs) ys (suc k) y e = in_front xs ys k y e

  front_at : (k : ℕ) (y : Standing) → slice_get front k ≡ Some y → slice_get (all_leaves placed) k ≡ Some y
  front_at k y e = ap (λ l. slice_get l k) all_split ∙ in_front front (all_leaves split.0) k y e

  module _ (t : NetState) (rho : cycle.Valuation) where
    abbrev tree_rho : Valuation
    tree_rho = seen_valuation placed net t rho

    abbrev told_at : ℕ → Option PortLeaf
    told_at x = told_where is_shown x (slice_get net.leaves x)

    rows_from : (ys : List Standing) (a : ℕ) → ((k : ℕ) (y : Standing) → slice_get ys k ≡ Some y → slice_get (all_leaves placed) (a + k) ≡ Some y × (y.0.path ≡ []) × (is_port y.0.c.declaration.sort ≡ true))
        → map (λ p. integer_of (rho p.leaf)) (filter_map told_at (range_with_len a (length ys))) ≡ map (λ y. at tree_rho (flat_of y)) (filter is_watched ys)
    rows_from [] a h = refl
    rows_from (y ∷ ys) a h = by (is_watched y) refl (rows_from ys (a + 1) (λ k z e. subst (λ n. slice_get (all_leaves placed) n ≡ Some z × (z.0.path ≡ []) × (is_port z.0.c.declaration.sort ≡ true)) (omega arith) (h (suc k) z e)))
      where
        here : slice_get (all_leaves placed) a ≡ Some y
        here = subst (λ n. slice_get (all_leaves placed) n ≡ Some y) (omega arith) (h 0 y refl).0

        there : (leaf : NetLeaf) × (slice_get net.leaves a ≡ Some leaf)
        there = get_item net.leaves a (subst (λ n. a < n) (sym is.counted) (below_length (all_leaves placed) a y here))

        shown : is_shown there.0.role ≡ is_watched y
        shown = shown_part there.0.role ∙ (ap shown_of (is.leaves_are a y there.0 here there.1).part ∙ port_shown y (h 0 y refl).1 (h 0 y refl).2)

        by : (b : Bool) → is_watched y ≡ b → map (λ p. integer_of (rho p.leaf)) (filter_map told_at (range_with_len (a + 1) (length ys))) ≡ map (λ y. at tree_rho (flat_of y)) (filter is_watched ys)
            → map (λ p. integer_of (rho p.leaf)) (filter_map told_at (range_with_len a (length (y ∷ ys)))) ≡ map (λ y. at tree_rho (flat_of y)) (filter is_watched (y ∷ ys))
        by true e rest =
            let told : told_at a ≡ Some (port_leaf a there.0) = ap (told_where is_shown a) there.1 ∙ ap (λ b. if b then Some (port_leaf a there.0) else None) (shown ∙ e) in
            let value = valuation_at design placed lists (instant_of net t rho) a y here in
            ap (λ o. map (λ p. integer_of (rho p.leaf)) (cons_option o (filter_map told_at (range_with_len (a + 1) (length ys))))) told
            ∙ (ap₂ (λ v l. v ∷ l) (sym value) rest ∙ sym (ap (λ b. map (λ y. at tree_rho (flat_of y)) (cond b (y ∷ filter is_watched ys) (filter is_watched ys))) e))
        by false e rest =
            let told : told_at a ≡ None = ap (told_where is_shown a) there.1 ∙ ap (λ b. if b then Some (port_leaf a there.0) else None) (shown ∙ e) in
            ap (λ o. map (λ p. integer_of (rho p.leaf)) (cons_option o (filter_map told_at (range_with_len (a + 1) (length ys))))) told
            ∙ (rest ∙ sym (ap (λ b. map (λ y. at tree_rho (flat_of y)) (cond b (y ∷ filter is_watched ys) (filter is_watched ys))) e))

    -- The watched values are those of the circuit's watched leaves.
    pub watched_row : map (λ p. integer_of (rho p.leaf)) (watched net) ≡ tree.row design tree_rho
    watched_row =
        ap (λ n. map (λ p. integer_of (rho p.leaf)) (filter_map told_at (range_with_len 0 n))) ports_counted
        ∙ (rows_from front 0 (λ k y e. (subst (λ n. slice_get (all_leaves placed) n ≡ Some y) (omega arith) (front_at k y e), (front_main k y e).0, (front_main k y e).1))
        ∙ (sym (watched_ports m tree_rho first.ports first.all)
        ∙ ap (map (λ leaf. tree_rho [] leaf.component leaf.way)) (sym (ap watched_of found ∙ (ap (flat_map watched_of_component) first.are
        ∙ (flat_map-append watched_of_component first.ports first.others ∙ (ap (λ l. flat_map watched_of_component first.ports ++ l) (no_watched first.others first.none) ∙ append_nil (flat_map watched_of_component first.ports))))))
        ∙ sym (map_map (λ leaf. tree_rho leaf.path leaf.component leaf.way) tree.main_leaf (tree.watched design))))
