-- The faults that are found are those of clocks.
use Rattle.std.proofs.Common.{◌≡◌, ◌↔◌, ℕ, Bool, true, false, List, [], Option, Some, None, option_map, refl, sym, ap, ap₂, ◌∙◌, subst, arith, true≢false}
use Rattle.std.specs.Prelude.{Contains, nat_eq}
use Rattle.std.specs.List.{flat_map}
use Rattle.std.specs.Map.{lookup}
use Rattle.place_text.specs.declared.place.Place.{Place}
use Rattle.place_text.specs.First.{Tells}
use Rattle.fir_tree.specs.declared.scope.Fitted.{Fitted}
use Rattle.fir_meaning.specs.Components.{TypedModule, Leaf, FlatLeaf, design_of, target_of, flat, type_in}
use Rattle.fir_meaning.specs.ClockRoot.{IsRooted}
use Rattle.fir_meaning.proofs.Ports.{from_map, from_flat_map}
use Rattle.fir_meaning.proofs.Tracking.{Contains-map, Contains-flat_map, none_some}
use Rattle.fir_names.proofs.Graphs.{some_same}
use Rattle.drive_check.specs.Keys.{leaf_of_key}
use Rattle.drive_check.proofs.Deciding.{AreKnown}
use Rattle.drive_check.proofs.Telling.{AreNamed, none_in}
use Rattle.circuit_laws.specs.WellFormed.{IsWellFormed}
use Rattle.clock_check.specs.declared.flat_set.FlatKey.{FlatKey}
use Rattle.clock_check.specs.Flats.{is_within}
use Rattle.clock_check.specs.declared.fault.ClockFault.{ClockFault}
use Rattle.clock_check.specs.declared.fault.ClockFault.TheVariants.{ClockOther}
use Rattle.clock_check.specs.declared.hung.Hung.{Hung}
use Rattle.clock_check.specs.Clocked.{IsOther, IsFault, clock_other}
use Rattle.clock_check.specs.Hung.{Hangs, module_hung}
use Rattle.clock_check.specs.HangsOther.{HangsOther, LeadsHome}
use Rattle.clock_check.specs.Joins.{flat_by}
use Rattle.one_clock.specs.declared.places.Standing.{Standing}
use Rattle.one_clock.specs.Tables.{Table, IsTable}
use Rattle.one_clock.specs.Judged.{leads_home, fault_unless, hung_faults, faults_in, place_faults, Judges}
use Rattle.one_clock.specs.Stands.{Stand, stands_of, ComesFrom}
use Rattle.one_clock.specs.Chains.{root_in, Finds}
use Rattle.one_clock.proofs.Chaining.{AreEdges, AreAtPaths, AreFromPaths, AreSearched, AreAll, Seen, seen, Listing, listing, flat_is, decides}
use Rattle.one_clock.proofs.Lists.{one_in}
use Rattle.one_clock.proofs.Placing.{AreTargets, AreMeant, is_place, place_listed}

-- What the law says

abbrev pub AreHung : Fitted → Type 0
AreHung fitted = (place : Place) → IsOther (design_of fitted) place ↔ HangsOther fitted place

-- Faults of one register or port

told_one : (home : Bool) (place : Place) → home ≡ false → Contains (fault_unless home place) (ClockOther place)
told_one home place e = subst (λ b. Contains (fault_unless b place) (ClockOther place)) (sym e) (0, omega arith, refl)

one_told : (home : Bool) (place : Place) (f : ClockFault) → Contains (fault_unless home place) f → (home ≡ false) × (f ≡ ClockOther place)
one_told true place f c = absurd (none_in f c)
one_told false place f c = (refl, one_in (ClockOther place) f c)

module _ (fitted : Fitted) (set : FlatLeaf → Bool) (deciding : (x : FlatLeaf) → (set x ≡ true) ↔ IsRooted (design_of fitted) x) (m : TypedModule) (own : List (ℕ × ℕ))
    (targets : (name : ℕ) → lookup (nat_eq name) own ≡ target_of m name) (path : List ℕ) where
  -- a clock that isn't in the set leads elsewhere
  leads_away : (clock : Option Leaf) → leads_home set own path clock ≡ false → LeadsHome (design_of fitted) path m clock → ⊥
  leads_away None e (leaf, is, rooted) = none_some is
  leads_away (Some other) e (leaf, is, rooted) =
      true≢false (sym ((deciding (flat m path leaf)).1 rooted) ∙ ap set (ap (flat m path) (sym (some_same is)) ∙ sym (flat_is m own targets path other)) ∙ e)

  -- and one that leads elsewhere isn't
  is_away : (clock : Option Leaf) → (LeadsHome (design_of fitted) path m clock → ⊥) → leads_home set own path clock ≡ false
  is_away None out = refl
  is_away (Some leaf) out = by (set (flat_by own path leaf)) refl
    where
      by : (b : Bool) → set (flat_by own path leaf) ≡ b → b ≡ false
      by false e = refl
      by true e = absurd (out (leaf, refl, (deciding (flat m path leaf)).0 (ap set (sym (flat_is m own targets path leaf)) ∙ e)))

module _ (fitted : Fitted) (table : Table) (holds : IsTable fitted table) (known : AreKnown fitted) (targets : AreTargets fitted) (places : List Standing) (all : AreAll fitted places)
    (set : FlatLeaf → Bool) (deciding : (x : FlatLeaf) → (set x ≡ true) ↔ IsRooted (design_of fitted) x) (hung : AreHung fitted) where
  other_told : (place : Place) → HangsOther fitted place → Contains (flat_map (place_faults table set) places) (ClockOther place)
  other_told place h =
      let s : Listing fitted table places h.path h.m h.known = listing fitted table holds targets places all h.path h.m h.known h.reached in
      let own : List (ℕ × ℕ) = s.holds.clocks.targets.entries in
      let one = from_map (λ (x : Hung). (x.place, option_map leaf_of_key x.clock)) s.holds.clocks.hung.items (place, h.clock)
      (subst (λ l. Contains l (place, h.clock)) (sym s.holds.has.hung) h.hangs) in
      let away : leads_home set own s.place.path.items (option_map leaf_of_key one.0.clock) ≡ false =
      ap₂ (λ (p : List ℕ) (x : Hangs). leads_home set own p x.1) s.path_is one.2 ∙ is_away fitted set deciding h.m own s.targets h.path h.clock h.other in
      let told : Contains (hung_faults set own s.place.path.items one.0) (ClockOther place) =
      subst (λ (p : Place). Contains (hung_faults set own s.place.path.items one.0) (ClockOther p)) (ap (λ (x : Hangs). x.0) one.2)
      (told_one (leads_home set own s.place.path.items (option_map leaf_of_key one.0.clock)) one.0.place away) in
      Contains-flat_map (place_faults table set) places s.place (ClockOther place) s.listed
      (subst (λ o. Contains (faults_in set s.place.path.items o) (ClockOther place)) (sym s.found)
      (Contains-flat_map (hung_faults set own s.place.path.items) s.holds.clocks.hung.items one.0 (ClockOther place) one.1 told))

  told_other : (f : ClockFault) → Contains (flat_map (place_faults table set) places) f → IsFault fitted f
  told_other f c =
      let place = from_flat_map (place_faults table set) places f c in
      let s : Seen fitted table place.0 = seen fitted table holds known targets places all place.0 place.1 in
      let path : List ℕ = place.0.path.items in
      let own : List (ℕ × ℕ) = s.holds.clocks.targets.entries in
      let one = from_flat_map (hung_faults set own path) s.holds.clocks.hung.items f (subst (λ o. Contains (faults_in set path o) f) s.found place.2) in
      let clock : Option Leaf = option_map leaf_of_key one.0.clock in
      let is = one_told (leads_home set own path clock) one.0.place f one.2 in
      let hangs : Contains (module_hung (type_in s.m) s.its.holder) (one.0.place, clock) =
      subst (λ l. Contains l (one.0.place, clock)) s.holds.has.hung (Contains-map (λ (x : Hung). (x.place, option_map leaf_of_key x.clock)) s.holds.clocks.hung.items one.0 one.1) in
      subst (IsFault fitted) (sym is.1) (clock_other one.0.place ((hung one.0.place).1 (record {
        path = path;
        m = s.m;
        clock = clock;
        known = s.its;
        reached = s.at;
        hangs = hangs;
        other = leads_away fitted set deciding s.m own s.targets path clock is.0;
      })))

  pub tells : (faults : List ClockFault) → faults ≡ flat_map (place_faults table set) places → Tells (IsFault fitted) faults
  tells faults e = record {
    told = λ f is. subst (λ l. Contains l f) (sym e) (by f is);
    had = λ f c. told_other f (subst (λ l. Contains l f) e c);
  }
    where
      by : (f : ClockFault) → IsFault fitted f → Contains (flat_map (place_faults table set) places) f
      by f (clock_other place other) = other_told place ((hung place).0 other)

-- What the laws say, together
pub record Laws (fitted : Fitted) : Type 0 where
  pub known : AreKnown fitted
  pub named : AreNamed fitted
  pub meant : AreMeant fitted
  pub targets : AreTargets fitted
  pub edges : AreEdges fitted
  pub at : AreAtPaths fitted
  pub from : AreFromPaths fitted
  pub searches : AreSearched fitted
  pub hung : AreHung fitted

pub judged : (fitted : Fitted) → IsWellFormed fitted → Laws fitted → (table : Table) → IsTable fitted table → (places : List Standing)
    → ((x : Stand) → Contains (stands_of places) x ↔ ComesFrom table ([], fitted.checked.resolved.main.id) x) → (keys : List FlatKey)
    → Finds table places (root_in table fitted.checked.resolved.main.id) keys → (faults : List ClockFault) → faults ≡ flat_map (place_faults table (is_within keys)) places → Judges fitted faults
judged fitted well laws table holds places listed keys finds faults e = record {
  set = is_within keys;
  decides = decided;
  tells = tells fitted table holds laws.known laws.targets places all (is_within keys) decided laws.hung faults e;
}
  where
    all : AreAll fitted places
    all x = (
      λ c. is_place fitted well table holds laws.known laws.targets laws.meant ((listed x).0 c),
      λ p. (listed x).1 (place_listed fitted well table holds laws.known laws.targets laws.meant x p),
    )

    decided : (x : FlatLeaf) → (is_within keys x ≡ true) ↔ IsRooted (design_of fitted) x
    decided = decides fitted table holds laws.known laws.targets places all well laws.named laws.meant laws.edges laws.at laws.from laws.searches keys finds
