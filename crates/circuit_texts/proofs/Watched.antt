-- The leaves by which the net of a circuit is watched are those by which the circuit is, in order.
use Rattle.std.proofs.Common.{◌≡◌, ℕ, suc, ◌+◌, ◌&&◌, not, Bool, true, false, cond, List, [], ◌∷◌, ◌++◌, map, filter, Some, refl, sym, ap, ap₂, ◌∙◌, subst, arith, if◌then◌else◌, append-nil}
use Rattle.std.specs.Prelude.{slice_get, Contains, flat_map}
use Rattle.std.specs.List.{AllZip, enumerate_from}
use Rattle.std.proofs.lemmas.Grind.{flat_map-append}
use Rattle.std.proofs.lemmas.List.{map-append}
use Rattle.std.proofs.lemmas.List.Concat.{flat_map-cons}
use Rattle.fir_types.specs.declared.leaf.TypeLeaf.{TypeLeaf}
use Rattle.fir_types.specs.Leaves.{leaves}
use Rattle.fir_tree.specs.LeafNames.{Texts}
use Rattle.fir_meaning.specs.Components.{Design, TypedModule, Component, is_clock, flow_of}
use Rattle.fir_meaning.specs.States.{is_port, is_source, leaf_of, main_leaf, watched_of, watched_of_component, watched_leaves}
use Rattle.ground_net.specs.declared.net.Net.{Net}
use Rattle.ground_net.specs.declared.net.PortLeaf.{PortLeaf}
use Rattle.ground_net.specs.Watching.{watched}
use Rattle.net_of_circuit.specs.FlatOrder.{Placed, Standing, all_leaves, flat_of}
use Rattle.net_laws.specs.Typed.{HasPortsFirst}
use Rattle.net_laws.specs.Serves.{Serves}
use Rattle.net_laws.proofs.Rows.{leaves_of, map_map}
use Rattle.circuit_run.specs.Ports.{PortPart, is_watched, watched_parts, IsPortLeaf}
use Rattle.circuit_run.specs.NetRuns.{watch}
use Rattle.circuit_run.proofs.Lists.{zip_map}
use Rattle.circuit_run.proofs.Parts.{strip, front, front_at, parts_of_front, watched_zip}

-- Lists

filter_append : {A : Type 0} (test : A → Bool) (xs ys : List A) → filter test (xs ++ ys) ≡ filter test xs ++ filter test ys
filter_append test [] ys = refl
filter_append {A} test (x ∷ xs) ys = by (test x) (filter_append test xs ys) where
  by : (b : Bool) → filter test (xs ++ ys) ≡ filter test xs ++ filter test ys → cond b (x ∷ filter test (xs ++ ys)) (filter test (xs ++ ys)) ≡ cond b (x ∷ filter test xs) (filter test xs) ++ filter test ys
  by true rest = ap (λ l. x ∷ l) rest
  by false rest = rest

filter_map_in : {A B : Type 0} (test : B → Bool) (h : A → B) (xs : List A) → filter test (map h xs) ≡ map h (filter (λ x. test (h x)) xs)
filter_map_in test h [] = refl
filter_map_in {A} test h (x ∷ xs) = by (test (h x)) (filter_map_in test h xs) where
  by : (b : Bool) → filter test (map h xs) ≡ map h (filter (λ x. test (h x)) xs) → cond b (h x ∷ filter test (map h xs)) (filter test (map h xs)) ≡ map h (cond b (x ∷ filter (λ x. test (h x)) xs) (filter (λ x. test (h x)) xs))
  by true rest = ap (λ l. h x ∷ l) rest
  by false rest = rest

later_contains : {A : Type 0} (z : A) (xs : List A) (x : A) → Contains xs x → Contains (z ∷ xs) x
later_contains z xs x (k, below, is) = (suc k, omega arith, is)

-- Numbers

abbrev shows : Standing → Bool
shows y = is_watched (strip y)

abbrev numbers_from : ℕ → List Standing → List ℕ
numbers_from a ys = map (λ x. x.0) (filter (λ x. is_watched x.1) (enumerate_from a (map strip ys)))

zip_filter : (P : ℕ → Standing → Type 0) (ys : List Standing) (a : ℕ) → ((k : ℕ) (y : Standing) → slice_get ys k ≡ Some y → P (a + k) y) → AllZip P (numbers_from a ys) (filter shows ys)
zip_filter P [] a h = tt
zip_filter P (y ∷ ys) a h = by (shows y) (zip_filter P ys (a + 1) (λ k z e. subst (λ n. P n z) (omega arith) (h (suc k) z e))) where
  here : P a y
  here = subst (λ n. P n y) (omega arith) (h 0 y refl)

  by : (b : Bool) → AllZip P (numbers_from (a + 1) ys) (filter shows ys)
      → AllZip P (map (λ (x : ℕ × PortPart). x.0) (cond b ((a, strip y) ∷ filter (λ x. is_watched x.1) (enumerate_from (a + 1) (map strip ys))) (filter (λ x. is_watched x.1) (enumerate_from (a + 1) (map strip ys))))) (cond b (y ∷ filter shows ys) (filter shows ys))
  by true rest = (here, rest)
  by false rest = rest

-- Leaves

abbrev of_main : TypedModule → Component → Placed
of_main m c = record { path = []; m = m; c = c }

no_watched : (others : List Component) → ((c : Component) → Contains others c → is_port c.declaration.sort ≡ false) → flat_map watched_of_component others ≡ []
no_watched [] none = refl
no_watched (c ∷ others) none =
    flat_map-cons watched_of_component c others
    ∙ ap₂ (λ a b. a ++ b) (ap (λ b. if b then map (leaf_of c) (filter (λ leaf. not (is_source (flow_of c.declaration.sort leaf.flip)) && not (is_clock leaf)) (leaves c.typ)) else []) (none c (0, omega arith, refl)))
    (no_watched others (λ d h. none d (later_contains c others d h)))

ports_flat : (m : TypedModule) (ports : List Component) → ((c : Component) → Contains ports c → is_port c.declaration.sort ≡ true)
    → map main_leaf (flat_map watched_of_component ports) ≡ map flat_of (filter shows (all_leaves (map (of_main m) ports)))
ports_flat m [] all = refl
ports_flat m (c ∷ ports) all =
    let p : Placed = of_main m c in
    let show : TypeLeaf → Bool = λ leaf. not (is_source (flow_of c.declaration.sort leaf.flip)) && not (is_clock leaf) in
    let here : watched_of_component c ≡ map (leaf_of c) (filter show (leaves c.typ)) = ap (λ b. if b then map (leaf_of c) (filter show (leaves c.typ)) else []) (all c (0, omega arith, refl)) in
    let own : map main_leaf (watched_of_component c) ≡ map flat_of (filter shows (leaves_of p)) =
    ap (map main_leaf) here ∙ (map_map main_leaf (leaf_of c) (filter show (leaves c.typ)) ∙ sym (ap (map flat_of) (filter_map_in shows (λ leaf. (p, leaf)) (leaves c.typ)) ∙ map_map flat_of (λ leaf. (p, leaf)) (filter show (leaves c.typ)))) in
    let rest = ports_flat m ports (λ d h. all d (later_contains c ports d h)) in
    ap (map main_leaf) (flat_map-cons watched_of_component c ports)
    ∙ (map-append main_leaf (watched_of_component c) (flat_map watched_of_component ports)
    ∙ (ap₂ (λ a b. a ++ b) own rest
    ∙ sym (ap (λ l. map flat_of (filter shows l)) (flat_map-cons leaves_of p (map (of_main m) ports))
    ∙ (ap (map flat_of) (filter_append shows (leaves_of p) (all_leaves (map (of_main m) ports)))
    ∙ map-append flat_of (filter shows (leaves_of p)) (filter shows (all_leaves (map (of_main m) ports)))))))

module _ (texts : Texts) (design : Design) (net : Net) (serves : Serves texts design net) where
  abbrev first : HasPortsFirst serves.of.main
  first = serves.typed.main serves.of.main serves.of.found

  abbrev ports_front : List Standing
  ports_front = front texts design serves.of.placed serves.of.elements net serves.of.is serves.lists serves.of.main serves.of.found serves.of.order first

  -- the leaves by which main is watched
  abbrev pub shown : List Standing
  shown = filter shows ports_front

  numbers_are : watch net ≡ map (λ x. x.0) (watched_parts design)
  numbers_are =
      zip_map (IsPortLeaf texts) (λ x. x.0) (λ (p : PortLeaf). p.leaf) (λ x p h. h.number) (watched_parts design) (watched net)
      (watched_zip texts design serves.of.placed serves.of.elements net serves.of.is serves.lists serves.of.main serves.of.found serves.of.order first)

  parts_are : watched_parts design ≡ filter (λ x. is_watched x.1) (enumerate_from 0 (map strip ports_front))
  parts_are = ap (filter (λ x. is_watched x.1)) (parts_of_front texts design serves.of.placed serves.of.elements net serves.of.is serves.lists serves.of.main serves.of.found serves.of.order first)

  -- they stand at the numbers
  pub shown_stand : AllZip (λ x y. slice_get (all_leaves serves.of.placed) x ≡ Some y) (watch net) shown
  shown_stand =
      let P : ℕ → Standing → Type 0 = λ x y. slice_get (all_leaves serves.of.placed) x ≡ Some y in
      subst (λ l. AllZip P l shown) (sym (numbers_are ∙ ap (map (λ x. x.0)) parts_are))
      (zip_filter P ports_front 0 (λ k y e. subst (λ n. P n y) (omega arith)
      (front_at texts design serves.of.placed serves.of.elements net serves.of.is serves.lists serves.of.main serves.of.found serves.of.order first k y e)))

  -- and are the circuit's
  pub shown_flat : map flat_of shown ≡ watched_leaves design
  shown_flat =
      sym (ports_flat serves.of.main first.ports first.all)
      ∙ ap (map main_leaf) (sym (ap watched_of serves.of.found ∙ (ap (flat_map watched_of_component) first.are
      ∙ (flat_map-append watched_of_component first.ports first.others ∙ (ap (λ l. flat_map watched_of_component first.ports ++ l) (no_watched first.others first.none) ∙ append-nil (flat_map watched_of_component first.ports))))))
