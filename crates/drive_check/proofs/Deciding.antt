-- There is no fault exactly where the circuit is initialized.
use Rattle.std.proofs.Common.{◌≡◌, ℕ, zero, suc, Bool, true, false, List, [], ◌∷◌, length, Some, slice_get, refl, sym, ap, ◌∙◌, arith, true≢false, ◌==◌}
use Rattle.std.specs.Prelude.{◌↔◌}
use Rattle.std.proofs.lemmas.List.{length-map}
use Rattle.place_text.specs.declared.place.Place.{Place}
use Rattle.place_text.specs.First.{HasNone}
use Rattle.fir_types.specs.declared.name.Name.{Name}
use Rattle.fir_types.specs.declared.leaf.TypeLeaf.{TypeLeaf}
use Rattle.fir_tree.specs.declared.scope.Fitted.{Fitted}
use Rattle.fir_meaning.specs.Components.{Declaration, Component, TypedModule, declarations_of, modules_of, design_of, module_at, flow_of, type_in}
use Rattle.fir_meaning.specs.Certain.{IsInitialized, is_certain, must_be_driven}
use Rattle.fir_meaning.specs.States.{Stands, leaf_of}
use Rattle.fir_meaning.proofs.Tracking.{none_some}
use Rattle.circuit_laws.specs.WellFormed.{IsKnownModule}
use Rattle.drive_check.specs.declared.fault.DriveFault.{DriveFault}
use Rattle.drive_check.specs.declared.fault.DriveFault.TheVariants.{NotInitialized}
use Rattle.drive_check.specs.Sites.{names_of, place_of_leaf}
use Rattle.drive_check.specs.Initialized.{IsUndriven, IsFault, not_initialized}
use Rattle.drive_check.proofs.Linking.{names_are}
use Rattle.drive_check.proofs.Telling.{Placed, placed, AreNamed, get_contains, find_in, zipped}

-- a name for each declaration
name_at : (ds : List Declaration) (names : List Name) (k : ℕ) (d : Declaration) → length names ≡ length ds → slice_get ds k ≡ Some d → (name : Name) × (slice_get names k ≡ Some name)
name_at [] names k d e f = absurd (none_some f)
name_at (x ∷ ds) [] k d e f = absurd (omega (arith, e))
name_at (x ∷ ds) (n ∷ names) zero d e f = (n, refl)
name_at (x ∷ ds) (n ∷ names) (suc k) d e f = name_at ds names k d (omega (arith, e)) f

-- What is known of which modules main reaches

abbrev pub AreReached : Fitted → Type 0
AreReached fitted = (k : ℕ) (m : TypedModule) → slice_get (modules_of fitted) k ≡ Some m → (slice_get fitted.checked.scope.reached k ≡ Some true) ↔ ((path : List ℕ) × (module_at (design_of fitted) path ≡ Some m))

abbrev pub AreKnown : Fitted → Type 0
AreKnown fitted = (path : List ℕ) (m : TypedModule) → module_at (design_of fitted) path ≡ Some m → IsKnownModule fitted m

pub no_fault_covers : (fitted : Fitted) → AreKnown fitted → HasNone (IsFault fitted) → IsInitialized (design_of fitted)
no_fault_covers fitted known none = record { covered = λ path m c leaf stands must. by path m c leaf stands must (is_certain (type_in m) (leaf_of c leaf) c.declaration.behind) refl }
  where
    by : (path : List ℕ) (m : TypedModule) (c : Component) (leaf : TypeLeaf) → Stands (design_of fitted) path m c leaf → must_be_driven c.declaration.sort (flow_of c.declaration.sort leaf.flip) ≡ true
        → (b : Bool) → is_certain (type_in m) (leaf_of c leaf) c.declaration.behind ≡ b → b ≡ true
    by path m c leaf stands must true e = refl
    by path m c leaf stands must false e =
        let its : IsKnownModule fitted m = known path m stands.reached in
        let h : Placed fitted.checked.resolved.modules fitted.declared fitted.checked.scope.reached its.k its.holder m =
        placed fitted.checked.resolved.modules fitted.declared fitted.checked.scope.reached its.k its.holder m its.here its.number in
        let place = find_in (λ x. x.declaration.name == c.declaration.name) m.components c stands.declared in
        let d : slice_get (declarations_of its.holder) place.0 ≡ Some c.declaration = zipped (declarations_of its.holder) h.declared place.0 c (ap (λ l. slice_get l place.0) (sym h.is) ∙ place.1) in
        let lengths : length (names_of its.holder) ≡ length (declarations_of its.holder) =
        sym (length-map (names_of its.holder) (λ n. n.id)) ∙ sym (ap length (names_are its.holder)) ∙ length-map (declarations_of its.holder) (λ x. x.name) in
        let name = name_at (declarations_of its.holder) (names_of its.holder) place.0 c.declaration lengths d in
        absurd (none (NotInitialized (place_of_leaf name.0 c.declaration.sort leaf.path)) (not_initialized (place_of_leaf name.0 c.declaration.sort leaf.path) (record {
          holder = its.holder;
          m = m;
          c = c;
          name = name.0;
          leaf = leaf;
          reached = record { number = its.k; reached = its.reached; holds = its.here; typed = its.number };
          declares = record { number = place.0; component = place.1; named = name.1 };
          listed = stands.listed;
          must = must;
          open' = e;
          at = refl;
        })))

pub covered_has_none : (fitted : Fitted) → AreReached fitted → AreNamed fitted → IsInitialized (design_of fitted) → HasNone (IsFault fitted)
covered_has_none fitted reached named init fault is = by fault is
  where
    undriven : (place : Place) → IsUndriven fitted place → ⊥
    undriven place u =
        let path = (reached u.reached.number u.m u.reached.typed).0 u.reached.reached in
        let own = named u.m (get_contains (modules_of fitted) u.reached.number u.m u.reached.typed) u.c (get_contains u.m.components u.declares.number u.c u.declares.component) in
        true≢false (sym (init.covered path.0 u.m u.c u.leaf (record { reached = path.1; declared = own; listed = u.listed }) u.must) ∙ u.open')

    by : (f : DriveFault) → IsFault fitted f → ⊥
    by f (not_initialized place u) = undriven place u
