-- The components at all places are all components of the run.
use Rattle.std.proofs.Common.{◌≡◌, ℕ, ◌+◌, ◌<◌, ◌≤◌, min, zip, List, [], ◌∷◌, ◌++◌, map, take, length, get_or, Option, Some, None, refl, sym, ap, ◌∙◌, subst, arith, append-nil}
use Rattle.std.specs.Prelude.{Contains, option_map}
use Rattle.std.specs.List.{flat_map}
use Rattle.std.proofs.lemmas.List.{map-append, take_more}
use Rattle.std.proofs.lemmas.List.Concat.{flat_map-cons}
use Rattle.std.proofs.lemmas.Grind.{flat_map-append}
use Rattle.fir_types.specs.declared.fir_type.FirType.{FirType}
use Rattle.fir_tree.specs.declared.scope.Fitted.{Fitted}
use Rattle.fir_meaning.specs.Components.{Design, Component, TypedModule, design_of, module_named}
use Rattle.fir_meaning.proofs.Ports.{component_found, one_later, from_map, from_flat_map}
use Rattle.fir_meaning.proofs.Tracking.{Contains-map, Contains-flat_map}
use Rattle.circuit_laws.specs.WellFormed.{IsWellFormed}
use Rattle.drive_check.proofs.Telling.{AreOnce}
use Rattle.plain_cycle.specs.Apart.{AreApart}
use Rattle.plain_cycle.specs.declared.declarations.Declaration.{Declaration}
use Rattle.plain_cycle.specs.declared.places.Standing.{Standing}
use Rattle.plain_cycle.specs.declared.layout.Layout.{Layout}
use Rattle.plain_cycle.specs.Held.{held}
use Rattle.plain_cycle.specs.Parts.{bares}
use Rattle.plain_cycle.specs.Places.{Stand, stand_of, stands_of, IsPlace, ArePlaces}
use Rattle.plain_cycle.specs.Layouts.{Located, IsLocated, key_of, site_with, site_of, kept_at, located_in, all_located, AreAll, Lists, Adds, IsLayout}
use Rattle.plain_cycle.proofs.Apart.{apart_append, apart_finer}
use Rattle.plain_cycle.proofs.Lists.{take_past, zip_mapped}
use Rattle.plain_cycle.proofs.Modules.{sites_known, kepts_known, none_located}
use Rattle.plain_cycle.proofs.Placing.{names_apart}

abbrev placed : List ℕ → TypedModule → Component → Located
placed path m c = record { path = path; m = m; c = c }

keys_in : (path : List ℕ) (m : TypedModule) (cs : List Component) → map key_of (map (placed path m) cs) ≡ map (λ (c : Component). (path, c.declaration.name)) cs
keys_in path m [] = refl
keys_in path m (c ∷ cs) = ap (λ l. (path, c.declaration.name) ∷ l) (keys_in path m cs)

module _ (fitted : Fitted) (well : IsWellFormed fitted) (once : AreOnce fitted) where
  abbrev design : Design
  design = design_of fitted

  abbrev at : Stand → List Located
  at x = located_in x.0 (module_named design x.1)

  -- the components at one place
  located_at : (x : Stand) (y : Located) → IsPlace design x → Contains (at x) y → IsLocated design y × (y.path ≡ x.0)
  located_at x y (m, reached, named) c =
      let from = from_map (placed x.0 m) m.components y (subst (λ o. Contains (located_in x.0 o) y) named c) in
      subst (λ z. IsLocated design z × (z.path ≡ x.0)) from.2 (record { reached = reached; declared = well.bundles.names x.0 m from.0 reached from.1 }, refl)

  apart_at : (x : Stand) → IsPlace design x → AreApart (map key_of (at x))
  apart_at x (m, reached, named) =
      subst (λ o. AreApart (map key_of (located_in x.0 o))) (sym named)
      (subst AreApart (sym (keys_in x.0 m m.components))
      (apart_finer (λ (c : Component). c.declaration.name) (λ (c : Component). (x.0, c.declaration.name)) m.components (λ c d e. ap (λ (k : List ℕ × ℕ). k.1) e) (names_apart fitted well once x.0 m reached)))

  apart_everywhere : (places : List Stand) → ((x : Stand) → Contains places x → IsPlace design x) → AreApart (map (λ (x : Stand). x.0) places) → AreApart (map key_of (all_located design places))
  apart_everywhere [] each a = tt
  apart_everywhere (x ∷ places) each a =
      subst (λ l. AreApart (map key_of l)) (sym (flat_map-cons at x places))
      (subst AreApart (sym (map-append key_of (at x) (flat_map at places)))
      (apart_append (map key_of (at x)) (map key_of (flat_map at places)) (apart_at x (each x (0, omega arith, refl)))
      (apart_everywhere places (λ y c. each y (one_later x places y c)) a.1) none_twice))
    where
      none_twice : (k : List ℕ × ℕ) → Contains (map key_of (at x)) k → Contains (map key_of (flat_map at places)) k → ⊥
      none_twice k b c =
          let y = from_map key_of (at x) k b in
          let z = from_map key_of (flat_map at places) k c in
          let w = from_flat_map at places z.0 z.1 in
          let first = located_at x y.0 (each x (0, omega arith, refl)) y.1 in
          let second = located_at w.0 z.0 (each w.0 (one_later x places w.0 w.1)) w.2 in
          a.0 (subst (λ p. Contains (map (λ (x : Stand). x.0) places) p) (sym second.1 ∙ (ap (λ (k : List ℕ × ℕ). k.0) (z.2 ∙ sym y.2) ∙ first.1)) (Contains-map (λ (x : Stand). x.0) places w.0 w.1))

  pub all_there : (places : List Stand) → ArePlaces design places → AreAll design (all_located design places)
  all_there places are = record {
    each = λ y c. let x = from_flat_map at places y c in (located_at x.0 y (are.each x.0 x.1) x.2).0;
    every = λ y is.
        let x = are.every y.path y.m is.reached in
        Contains-flat_map at places (y.path, x.0) y x.1
        (subst (λ o. Contains (located_in y.path o) y) (sym x.2) (Contains-map (placed y.path y.m) y.m.components y.c (component_found y.m y.c.declaration.name y.c is.declared).1));
    once = apart_everywhere places are.each are.once;
  }

-- The list as it is held

lists_more_of : (all more : List Located) (old new : Layout) → Adds more old new → Lists all old.sites old.declared.items → Lists (all ++ more) new.sites new.declared.items
lists_more_of all more old new adds h = record {
  sites = adds.sites ∙ (ap (λ l. l ++ map site_of more) h.sites ∙ sym (map-append site_of all more));
  declared = adds.declared ∙ (ap (λ l. l ++ map kept_at more) h.declared ∙ sym (map-append kept_at all more));
}

all_more : (design : Design) (places : List Standing) (k : ℕ) (x : Standing) → k < length places → x ≡ get_or places k x
    → all_located design (stands_of (take (k + 1) places)) ≡ all_located design (stands_of (take k places)) ++ located_in x.path.items (module_named design x.name)
all_more design places k x below is =
    let here' : take (k + 1) places ≡ take k places ++ x ∷ [] = take_more places k x below ∙ ap (λ y. take k places ++ y ∷ []) (sym is) in
    ap (λ l. all_located design (stands_of l)) here' ∙ (ap (all_located design) (map-append stand_of (take k places) (x ∷ []))
    ∙ (flat_map-append (λ (y : Stand). located_in y.0 (module_named design y.1)) (stands_of (take k places)) (stand_of x ∷ [])
    ∙ ap (λ l. all_located design (stands_of (take k places)) ++ l) (flat_map-cons (λ (y : Stand). located_in y.0 (module_named design y.1)) (stand_of x) [] ∙ append-nil (located_in x.path.items (module_named design x.name)))))

pub lists_more : (design : Design) (places : List Standing) (k : ℕ) (x : Standing) (old new : Layout) → k < length places → x ≡ get_or places k x
    → Adds (located_in x.path.items (module_named design x.name)) old new → Lists (all_located design (stands_of (take k places))) old.sites old.declared.items
    → Lists (all_located design (stands_of (take (k + 1) places))) new.sites new.declared.items
lists_more design places k x old new below is adds h =
    subst (λ l. Lists l new.sites new.declared.items) (sym (all_more design places k x below is))
    (lists_more_of (all_located design (stands_of (take k places))) (located_in x.path.items (module_named design x.name)) old new adds h)

pub laid_out : (fitted : Fitted) → IsWellFormed fitted → AreOnce fitted → (places : List Standing) → ArePlaces (design_of fitted) (stands_of places) → (k : ℕ) (layout : Layout) → length places ≤ k
    → Lists (all_located (design_of fitted) (stands_of (take k places))) layout.sites layout.declared.items → IsLayout (design_of fitted) layout.sites layout.declared.items
laid_out fitted well once places are k layout past h = record {
  all = all_located (design_of fitted) (stands_of places);
  are = all_there fitted well once (stands_of places) are;
  lists = subst (λ l. Lists (all_located (design_of fitted) (stands_of l)) layout.sites layout.declared.items) (take_past places k past) h;
}

-- The components at one place, as they are held

pub adds_known : (path : List ℕ) (found : Option TypedModule) (ds : List Declaration) (ts : List FirType) (k : ℕ) (old new : Layout) → Some (zip (map held ds) ts) ≡ option_map bares found
    → min (length ds) (length ts) ≤ k → new.sites ≡ old.sites ++ map (site_with path) (zip (map held (take k ds)) (take k ts))
    → map held new.declared.items ≡ map held old.declared.items ++ map (λ both. both.0) (zip (map held (take k ds)) (take k ts)) → Adds (located_in path found) old new
adds_known path found ds ts k old new is past sites declared = record {
  sites = sites ∙ ap (λ l. old.sites ++ l) (ap (map (site_with path)) (zip_mapped held ds ts k past) ∙ sites_known path found (zip (map held ds) ts) is);
  declared = declared ∙ ap (λ l. map held old.declared.items ++ l) (ap (map (λ both. both.0)) (zip_mapped held ds ts k past) ∙ kepts_known path found (zip (map held ds) ts) is);
}

pub adds_none : (path : List ℕ) (found : Option TypedModule) (layout : Layout) → None ≡ option_map bares found → Adds (located_in path found) layout layout
adds_none path found layout is =
    let nothing = none_located path found is in
    record {
      sites = sym (ap (λ l. layout.sites ++ map site_of l) nothing ∙ append-nil layout.sites);
      declared = sym (ap (λ l. map held layout.declared.items ++ map kept_at l) nothing ∙ append-nil (map held layout.declared.items));
    }
