-- The links of all places are those of the chains of clocks.
use Rattle.std.proofs.Common.{◌≡◌, ◌↔◌, ℕ, true, List, [], Option, Some, None, option_map, slice_get, refl, sym, ap, ap₂, ◌∙◌, subst, true≢false}
use Rattle.std.specs.Prelude.{Contains, nat_eq}
use Rattle.std.specs.List.{list_any}
use Rattle.std.specs.Map.{lookup}
use Rattle.fir_tree.specs.declared.circuit.Module.{Module}
use Rattle.fir_tree.specs.declared.scope.Fitted.{Fitted}
use Rattle.fir_meaning.specs.Components.{Design, TypedModule, Leaf, FlatLeaf, design_of, modules_of, module_named, module_at, type_in, flat, flat_through, target_of}
use Rattle.fir_meaning.specs.ClockRoot.{ClockFrom, IsRooted, at_root, onward, clock_root, clock_inputs_of}
use Rattle.fir_meaning.proofs.Ports.{and_some, from_map}
use Rattle.fir_meaning.proofs.Tracking.{Contains-map, none_some}
use Rattle.circuit_laws.specs.WellFormed.{IsWellFormed, IsKnownModule}
use Rattle.drive_check.specs.Keys.{leaf_of_key}
use Rattle.drive_check.proofs.Deciding.{AreKnown}
use Rattle.drive_check.proofs.Telling.{AreNamed}
use Rattle.clock_check.specs.declared.walk.Link.{Link}
use Rattle.clock_check.specs.declared.flat_set.FlatKey.{FlatKey}
use Rattle.clock_check.specs.Edges.{Edge, edges_of, module_edges}
use Rattle.clock_check.specs.Flats.{same_flat, is_within}
use Rattle.clock_check.specs.Gets.{Gets, LinkAt}
use Rattle.clock_check.specs.Joins.{flat_by, joins}
use Rattle.clock_check.specs.Searched.{Sinks, IsSink, LeadsTo}
use Rattle.one_clock.specs.declared.places.Standing.{Standing}
use Rattle.one_clock.specs.Tables.{Table, Holds, IsTable}
use Rattle.one_clock.specs.Stands.{Stand, stand_of, stands_of}
use Rattle.one_clock.specs.Chains.{joins_in, joins_at, at_top, first_input, root_in, Finds}
use Rattle.one_clock.proofs.Inputs.{inputs_are}
use Rattle.one_clock.proofs.Lists.{any_in, in_any, and_parts, and_both, flat_itself, flat_equal}
use Rattle.one_clock.proofs.Placing.{AreTargets, AreMeant, IsPlace, start_place}

-- What the laws say

abbrev pub AreEdges : Fitted → Type 0
AreEdges fitted = (k : ℕ) (holder : Module) (m : TypedModule) → slice_get fitted.checked.resolved.modules k ≡ Some holder → slice_get (modules_of fitted) k ≡ Some m → (x y : Leaf)
    → Contains (module_edges (type_in m) holder) (x, y) ↔ Gets m x y

abbrev pub AreAtPaths : Fitted → Type 0
AreAtPaths fitted = (x y : FlatLeaf) → ClockFrom (design_of fitted) x y → LinkAt (design_of fitted) x y

abbrev pub AreFromPaths : Fitted → Type 0
AreFromPaths fitted = (path : List ℕ) (m : TypedModule) (x y : Leaf) → module_at (design_of fitted) path ≡ Some m → Gets m x y → ClockFrom (design_of fitted) (flat m path x) (flat m path y)

abbrev pub AreSearched : Fitted → Type 0
AreSearched fitted = (sinks : Sinks) (root : FlatLeaf) → clock_root (design_of fitted) ≡ Some root → ((x y : FlatLeaf) → IsSink sinks x y ↔ ClockFrom (design_of fitted) x y)
    → (x : FlatLeaf) → LeadsTo sinks root x ↔ IsRooted (design_of fitted) x

-- the places are all those at which modules stand
abbrev pub AreAll : Fitted → List Standing → Type 0
AreAll fitted places = (x : Stand) → Contains (stands_of places) x ↔ IsPlace (design_of fitted) x

-- What the table has of a module at a path.

pub flat_is : (m : TypedModule) (h : List (ℕ × ℕ)) → ((name : ℕ) → lookup (nat_eq name) h ≡ target_of m name) → (path : List ℕ) (leaf : Leaf) → flat_by h path leaf ≡ flat m path leaf
flat_is m h targets path leaf = ap (λ o. flat_through path leaf.component o leaf.way) (targets leaf.component)

-- a module that stands at a place, with what is known of it
pub record Seen (fitted : Fitted) (table : Table) (place : Standing) : Type 0 where
  pub m : TypedModule
  pub its : IsKnownModule fitted m
  pub at : module_at (design_of fitted) place.path.items ≡ Some m
  pub holds : Holds table (type_in m) its.holder m.name
  pub found : lookup (nat_eq place.name) table ≡ Some holds.clocks
  pub targets : (name : ℕ) → lookup (nat_eq name) holds.clocks.targets.entries ≡ target_of m name

pub seen : (fitted : Fitted) (table : Table) → IsTable fitted table → AreKnown fitted → AreTargets fitted → (places : List Standing) → AreAll fitted places → (place : Standing) → Contains places place
    → Seen fitted table place
seen fitted table holds known targets places all place c = by ((all (stand_of place)).0 (Contains-map stand_of places place c))
  where
    by : IsPlace (design_of fitted) (stand_of place) → Seen fitted table place
    by (m, at, name) =
        let its = known place.path.items m at in
        let h : Holds table (type_in m) its.holder m.name = holds m its in
        record { m = m; its = its; at = at; holds = h; found = ap (λ n. lookup (nat_eq n) table) (sym name) ∙ h.at; targets = λ n. h.has.targets n ∙ targets m its n }

-- and one for each path
pub record Listing (fitted : Fitted) (table : Table) (places : List Standing) (path : List ℕ) (m : TypedModule) (its : IsKnownModule fitted m) : Type 0 where
  pub place : Standing
  pub listed : Contains places place
  pub path_is : place.path.items ≡ path
  pub holds : Holds table (type_in m) its.holder m.name
  pub found : lookup (nat_eq place.name) table ≡ Some holds.clocks
  pub targets : (name : ℕ) → lookup (nat_eq name) holds.clocks.targets.entries ≡ target_of m name

pub listing : (fitted : Fitted) (table : Table) → IsTable fitted table → AreTargets fitted → (places : List Standing) → AreAll fitted places → (path : List ℕ) (m : TypedModule) (its : IsKnownModule fitted m)
    → module_at (design_of fitted) path ≡ Some m → Listing fitted table places path m its
listing fitted table holds targets places all path m its at =
    let from = from_map stand_of places (path, m.name) ((all (path, m.name)).1 (m, at, refl)) in
    let h : Holds table (type_in m) its.holder m.name = holds m its in
    record {
      place = from.0;
      listed = from.1;
      path_is = ap (λ (x : Stand). x.0) from.2;
      holds = h;
      found = ap (λ (x : Stand). lookup (nat_eq x.1) table) from.2 ∙ h.at;
      targets = λ n. h.has.targets n ∙ targets m its n;
    }

module _ (fitted : Fitted) (table : Table) (holds : IsTable fitted table) (known : AreKnown fitted) (targets : AreTargets fitted) (places : List Standing) (all : AreAll fitted places) where
  abbrev design : Design
  design = design_of fitted

  -- Links

  joined_from : AreEdges fitted → AreFromPaths fitted → (x y : FlatLeaf) → list_any (joins_at table x y) places ≡ true → ClockFrom design x y
  joined_from edges from x y e =
      let place = any_in (joins_at table x y) places e in
      let s : Seen fitted table place.0 = seen fitted table holds known targets places all place.0 place.1 in
      let path : List ℕ = place.0.path.items in
      let own : List (ℕ × ℕ) = s.holds.clocks.targets.entries in
      let link = any_in (joins own path x y) s.holds.clocks.links.items (ap (joins_in x y path) (sym s.found) ∙ place.2) in
      let source : Leaf = leaf_of_key link.0.source in
      let sink : Leaf = leaf_of_key link.0.sink in
      let both = and_parts (same_flat (flat_by own path source) y) (same_flat (flat_by own path sink) x) link.2 in
      let edge : Contains (module_edges (type_in s.m) s.its.holder) (sink, source) =
      subst (λ l. Contains l (sink, source)) s.holds.has.links (Contains-map (λ (l : Link). (leaf_of_key l.sink, leaf_of_key l.source)) s.holds.clocks.links.items link.0 link.1) in
      let gets : Gets s.m sink source = (edges s.its.k s.its.holder s.m s.its.here s.its.number sink source).0 edge in
      let to : flat s.m path source ≡ y = sym (flat_is s.m own s.targets path source) ∙ flat_equal (flat_by own path source) y both.0 in
      let at : flat s.m path sink ≡ x = sym (flat_is s.m own s.targets path sink) ∙ flat_equal (flat_by own path sink) x both.1 in
      subst (λ z. ClockFrom design z y) at (subst (ClockFrom design (flat s.m path sink)) to (from path s.m sink source s.at gets))

  from_joined : AreEdges fitted → AreAtPaths fitted → (x y : FlatLeaf) → ClockFrom design x y → list_any (joins_at table x y) places ≡ true
  from_joined edges at x y from =
      let l : LinkAt design x y = at x y from in
      let its = known l.path l.m l.reached in
      let s : Listing fitted table places l.path l.m its = listing fitted table holds targets places all l.path l.m its l.reached in
      let own : List (ℕ × ℕ) = s.holds.clocks.targets.entries in
      let edge : Contains (edges_of s.holds.clocks.links.items) (l.sink, l.source) =
      subst (λ e. Contains e (l.sink, l.source)) (sym s.holds.has.links) ((edges its.k its.holder l.m its.here its.number l.sink l.source).1 l.gets) in
      let link = from_map (λ (k : Link). (leaf_of_key k.sink, leaf_of_key k.source)) s.holds.clocks.links.items (l.sink, l.source) edge in
      let source : flat_by own s.place.path.items (leaf_of_key link.0.source) ≡ y =
      ap₂ (λ (p : List ℕ) (e : Edge). flat_by own p e.1) s.path_is link.2 ∙ flat_is l.m own s.targets l.path l.source ∙ sym l.to in
      let sink : flat_by own s.place.path.items (leaf_of_key link.0.sink) ≡ x =
      ap₂ (λ (p : List ℕ) (e : Edge). flat_by own p e.0) s.path_is link.2 ∙ flat_is l.m own s.targets l.path l.sink ∙ sym l.from in
      let joined : joins own s.place.path.items x y link.0 ≡ true =
      and_both (same_flat (flat_by own s.place.path.items (leaf_of_key link.0.source)) y) (same_flat (flat_by own s.place.path.items (leaf_of_key link.0.sink)) x)
      (ap (λ z. same_flat z y) source ∙ flat_itself y) (ap (λ z. same_flat z x) sink ∙ flat_itself x) in
      in_any (joins_at table x y) places s.place s.listed
      (ap (joins_in x y s.place.path.items) s.found ∙ in_any (joins own s.place.path.items x y) s.holds.clocks.links.items link.0 link.1 joined)

  -- The root

  root_is : IsWellFormed fitted → AreNamed fitted → AreMeant fitted → root_in table design.main ≡ clock_root design
  root_is well named meant =
      let at = start_place fitted well table holds known targets meant in
      let its = known [] at.0 at.1 in
      let h : Holds table (type_in at.0) its.holder at.0.name = holds at.0 its in
      ap first_input (ap (λ n. lookup (nat_eq n) table) (sym at.2) ∙ h.at)
      ∙ ap (λ l. option_map at_top (slice_get l 0)) (h.has.inputs ∙ inputs_are fitted named at.0 its)
      ∙ ap (λ o. option_map at_top (slice_get (clock_inputs_of o) 0)) (sym at.1 ∙ and_some (module_named design design.main))

  unrooted : clock_root design ≡ None → {x : FlatLeaf} → IsRooted design x → ⊥
  unrooted none (at_root e) = none_some (sym none ∙ e)
  unrooted none (onward from rest) = unrooted none rest

  pub decides : IsWellFormed fitted → AreNamed fitted → AreMeant fitted → AreEdges fitted → AreAtPaths fitted → AreFromPaths fitted → AreSearched fitted
      → (keys : List FlatKey) → Finds table places (root_in table design.main) keys → (x : FlatLeaf) → (is_within keys x ≡ true) ↔ IsRooted design x
  decides well named meant edges at from searches keys finds = by (clock_root design) refl (subst (λ o. Finds table places o keys) (root_is well named meant) finds)
    where
      by : (o : Option FlatLeaf) → clock_root design ≡ o → Finds table places o keys → (x : FlatLeaf) → (is_within keys x ≡ true) ↔ IsRooted design x
      by None e none x = (λ is. absurd (true≢false (sym is ∙ none x)), λ r. absurd (unrooted e r))
      by (Some root) e (sinks, links, found) x =
          let law = searches sinks root e
          (λ s t. (λ is. joined_from edges from s t (sym (links s t) ∙ is), λ c. links s t ∙ from_joined edges at s t c)) x in
          (λ is. law.0 ((found x).0 is), λ r. (found x).1 (law.1 r))
