-- What stands at the places that are listed are the modules at paths.
use Rattle.std.proofs.Common.{◌≡◌, ℕ, zero, suc, ◌+◌, ◌<◌, ◌≤◌, ◌^◌, List, [], ◌∷◌, ◌++◌, map, take, length, get_or, Option, Some, None, slice_get, refl, sym, ap, ap₂, ◌∙◌, subst, arith, append-nil, append_assoc, ◌⊎◌, inl, inr, ⊎_elim}
use Rattle.std.specs.Prelude.{Contains, option_and_then, option_map}
use Rattle.std.specs.List.{flat_map}
use Rattle.std.specs.Global.{Vec}
use Rattle.std.proofs.lemmas.List.{map-append, length-append, take-map}
use Rattle.std.proofs.lemmas.List.Concat.{flat_map-cons}
use Rattle.std.proofs.lemmas.List.Elements.{Contains-append_cases, Contains-append_left, Contains-append_right}
use Rattle.std.proofs.lemmas.Option.{slice_get_read, slice_get-map}
use Rattle.fir_tree.specs.declared.circuit.Module.{Module}
use Rattle.fir_tree.specs.declared.scope.Fitted.{Fitted}
use Rattle.fir_meaning.specs.Components.{Design, Declaration, Component, TypedModule, declarations_of, design_of, modules_of, module_named, module_within, module_at, component_named, target_in, target_of}
use Rattle.fir_meaning.proofs.Ports.{inside, at_snoc, and_then, component_found, target_sort, from_flat_map, from_map}
use Rattle.fir_meaning.proofs.Tracking.{Contains-flat_map, Contains-map, none_some}
use Rattle.fir_names.specs.Scopes.{texts, Means}
use Rattle.circuit_laws.specs.WellFormed.{IsWellFormed}
use Rattle.circuit_laws.proofs.Reached.{has_number, known_module}
use Rattle.drive_check.proofs.Telling.{AreOnce, get_contains, none_in}
use Rattle.plain_cycle.specs.declared.places.Standing.{Standing}
use Rattle.plain_cycle.specs.Apart.{AreApart}
use Rattle.plain_cycle.specs.Places.{Stand, stand_of, stands_of, stand_behind, component_stands, stands_in, next_stands, IsPlace, ArePlaces}
use Rattle.plain_cycle.proofs.Apart.{apart_append, apart_taken, apart_by_places}
use Rattle.plain_cycle.proofs.Lists.{one_in, contains_taken, take_grown, take_past, not_snoc, snoc_same}
use Rattle.fir_names.proofs.Members.{Contains-get}

abbrev pub AreMeant : Fitted → Type 0
AreMeant fitted = (name k : ℕ) (m : TypedModule) → Means fitted.checked.resolved name k → slice_get (modules_of fitted) k ≡ Some m → module_named (design_of fitted) name ≡ Some m

abbrev pub names_in : TypedModule → List ℕ
names_in m = map (λ (c : Component). c.declaration.name) m.components

abbrev path_of : Stand → List ℕ
path_of x = x.0

holder_at : (modules : List Module) (k id : ℕ) → slice_get (texts (map (λ (m : Module). m.name) modules)) k ≡ Some id → (holder : Module) × (slice_get modules k ≡ Some holder)
holder_at [] k id e = absurd (none_some e)
holder_at (x ∷ modules) zero id e = (x, refl)
holder_at (x ∷ modules) (suc k) id e = holder_at modules k id e

-- One place and those behind it

behind_is : (path : List ℕ) (i : ℕ) (o : Option ℕ) (y : Stand) → Contains (stand_behind path i o) y → (t : ℕ) × (o ≡ Some t) × (y ≡ (path ++ i ∷ [], t))
behind_is path i None y c = absurd (none_in y c)
behind_is path i (Some t) y c = (t, refl, one_in (path ++ i ∷ [], t) y c)

-- behind which component of the module
pub behind_which : (path : List ℕ) (m : TypedModule) (y : Stand) → Contains (stands_in path (Some m)) y
    → (c : Component) × Contains m.components c × (t : ℕ) × (target_in c.declaration.sort ≡ Some t) × (y ≡ (path ++ c.declaration.name ∷ [], t))
behind_which path m y h =
    let from = from_flat_map (component_stands path) m.components y h in
    let b = behind_is path from.0.declaration.name (target_in from.0.declaration.sort) y from.2 in
    (from.0, from.1, b.0, b.1, b.2)

stands_apart : (path : List ℕ) (cs : List Component) → AreApart (map (λ (c : Component). c.declaration.name) cs) → AreApart (map path_of (flat_map (component_stands path) cs))
stands_apart path [] a = tt
stands_apart path (c ∷ cs) a = subst (λ l. AreApart (map path_of l)) (sym (flat_map-cons (component_stands path) c cs)) (by (target_in c.declaration.sort) (stands_apart path cs a.1))
  where
    not_later : Contains (map path_of (flat_map (component_stands path) cs)) (path ++ c.declaration.name ∷ []) → ⊥
    not_later h =
        let y = from_map path_of (flat_map (component_stands path) cs) (path ++ c.declaration.name ∷ []) h in
        let d = from_flat_map (component_stands path) cs y.0 y.1 in
        let b = behind_is path d.0.declaration.name (target_in d.0.declaration.sort) y.0 d.2 in
        let same = snoc_same path path d.0.declaration.name c.declaration.name (sym (ap path_of b.2) ∙ y.2) in
        a.0 (subst (λ (i : ℕ). Contains (map (λ (c : Component). c.declaration.name) cs) i) same.1 (Contains-map (λ (c : Component). c.declaration.name) cs d.0 d.1))

    by : (o : Option ℕ) → AreApart (map path_of (flat_map (component_stands path) cs)) → AreApart (map path_of (stand_behind path c.declaration.name o ++ flat_map (component_stands path) cs))
    by None later = later
    by (Some t) later = (not_later, later)

-- The list so far: what stands behind the first ones is there, and nothing is there twice
pub record Listed (design : Design) (start : Stand) (places : List Stand) (at : ℕ) : Type 0 where
  pub begun : Contains places start
  pub sound : (x : Stand) → Contains places x → IsPlace design x
  pub done : (x : Stand) → Contains (take at places) x → (y : Stand) → Contains (next_stands design x) y → Contains places y
  pub from : (x : Stand) → Contains places x → (x ≡ start) ⊎ ((y : Stand) × Contains (take at places) y × Contains (next_stands design y) x)
  pub apart : AreApart (map path_of places)

module _ (fitted : Fitted) (well : IsWellFormed fitted) (once : AreOnce fitted) where
  -- no two components of a module at a path have one name
  pub names_apart : (path : List ℕ) (m : TypedModule) → module_at (design_of fitted) path ≡ Some m → AreApart (names_in m)
  names_apart path m at =
      let its = known_module fitted well path m at in
      let own : map (λ (c : Component). c.declaration) m.components ≡ declarations_of its.holder = its.typed.components in
      subst AreApart (sym (names own))
      (apart_by_places (λ (d : Declaration). d.name) (declarations_of its.holder) (λ j k d e p q same. once its.holder (Contains-get fitted.checked.resolved.modules its.k its.holder its.here) j k d e p q same))
    where
      map_map : (cs : List Component) → map (λ (c : Component). c.declaration.name) cs ≡ map (λ (d : Declaration). d.name) (map (λ (c : Component). c.declaration) cs)
      map_map [] = refl
      map_map (c ∷ cs) = ap (λ l. c.declaration.name ∷ l) (map_map cs)

      names : {ds : List Declaration} → map (λ (c : Component). c.declaration) m.components ≡ ds → names_in m ≡ map (λ (d : Declaration). d.name) ds
      names e = map_map m.components ∙ ap (map (λ (d : Declaration). d.name)) e

module _ (fitted : Fitted) (well : IsWellFormed fitted) (once : AreOnce fitted) (meant : AreMeant fitted) where
  abbrev design : Design
  design = design_of fitted

  abbrev start : Stand
  start = ([], fitted.checked.resolved.main.id)

  main_there : (m : TypedModule) × (module_named design design.main ≡ Some m)
  main_there =
      let h = holder_at fitted.checked.resolved.modules well.scope.main fitted.checked.resolved.main.id well.scope.is_main.has in
      let m = has_number fitted.checked.resolved.modules fitted.declared well.scope.main h.0 h.1 in
      (m.0, meant fitted.checked.resolved.main.id well.scope.main m.0 well.scope.is_main m.1)

  pub start_place : IsPlace design start
  start_place = let m = main_there in (m.0, ap (option_and_then (λ n. Some n)) m.1, m.1)

  -- one instance further
  entered : (path : List ℕ) (m : TypedModule) (c : Component) (t : ℕ) → module_at design path ≡ Some m → Contains m.components c → target_in c.declaration.sort ≡ Some t
      → IsPlace design (path ++ c.declaration.name ∷ [], t)
  entered path m c t at among to =
      let named = well.bundles.names path m c at among in
      let n = well.bundles.instances path m c t at named (target_sort c.declaration.sort t to) in
      let target : target_of m c.declaration.name ≡ Some t = ap (option_and_then (λ (x : Component). target_in x.declaration.sort)) named ∙ to in (
        n.0,
        at_snoc design path c.declaration.name ∙ ap (option_and_then (λ x. inside design x c.declaration.name)) at ∙ ap (option_and_then (module_named design)) target ∙ n.1,
        n.1,
      )

  next_place : (x y : Stand) → IsPlace design x → Contains (next_stands design x) y → IsPlace design y
  next_place x y (m, at, named) c =
      let b = behind_which x.0 m y (subst (λ o. Contains (stands_in x.0 o) y) named c) in
      subst (IsPlace design) (sym b.4) (entered x.0 m b.0 b.2 at b.1 b.3)

  next_there : (x : Stand) (m : TypedModule) (i t : ℕ) → module_named design x.1 ≡ Some m → target_of m i ≡ Some t → Contains (next_stands design x) (x.0 ++ i ∷ [], t)
  next_there x m i t named to =
      let c = and_then (λ (x : Component). target_in x.declaration.sort) (component_named m i) t to in
      let its = component_found m i c.0 c.1 in
      let one : Contains (component_stands x.0 c.0) (x.0 ++ i ∷ [], t) =
      subst (λ o. Contains (stand_behind x.0 c.0.declaration.name o) (x.0 ++ i ∷ [], t)) (sym c.2)
      (get_contains ((x.0 ++ c.0.declaration.name ∷ [], t) ∷ []) 0 (x.0 ++ i ∷ [], t) (ap (λ (n : ℕ). Some (x.0 ++ n ∷ [], t)) its.0)) in
      subst (λ o. Contains (stands_in x.0 o) (x.0 ++ i ∷ [], t)) (sym named) (Contains-flat_map (component_stands x.0) m.components c.0 (x.0 ++ i ∷ [], t) its.1 one)

  pub listed_first : (places : List Stand) → places ≡ start ∷ [] → Listed design start places 0
  listed_first places e = subst (λ l. Listed design start l 0) (sym e) (record {
    begun = (0, omega arith, refl);
    sound = λ x c. subst (IsPlace design) (sym (one_in start x c)) start_place;
    done = λ x c. absurd (none_in x c);
    from = λ x c. inl (one_in start x c);
    apart = (λ c. none_in [] c, tt);
  })

  module _ (places : List Stand) (at : ℕ) (x : Stand) (h : Listed design start places at) (here' : slice_get places at ≡ Some x) where
    its_place : IsPlace design x
    its_place = h.sound x (get_contains places at x here')

    abbrev next : List Stand
    next = next_stands design x

    first_ones : take (at + 1) (places ++ next) ≡ take at places ++ x ∷ []
    first_ones = take_grown places next at x here'

    earlier : (y : Stand) → Contains (take at places) y → Contains (take (at + 1) (places ++ next)) y
    earlier y c = subst (λ l. Contains l y) (sym first_ones) (Contains-append_left (take at places) (x ∷ []) y c)

    itself : Contains (take (at + 1) (places ++ next)) x
    itself = subst (λ l. Contains l x) (sym first_ones) (Contains-append_right (take at places) (x ∷ []) x (0, omega arith, refl))

    done_more : (z : Stand) → Contains (take (at + 1) (places ++ next)) z → (y : Stand) → Contains (next_stands design z) y → Contains (places ++ next) y
    done_more z c y b = ⊎_elim
        (λ l. Contains-append_left places next y (h.done z l y b))
        (λ r. Contains-append_right places next y (subst (λ s. Contains (next_stands design s) y) (one_in x z r) b))
        (Contains-append_cases (take at places) (x ∷ []) z (subst (λ l. Contains l z) first_ones c))

    from_more : (z : Stand) → Contains (places ++ next) z → (z ≡ start) ⊎ ((y : Stand) × Contains (take (at + 1) (places ++ next)) y × Contains (next_stands design y) z)
    from_more z c = ⊎_elim
        (λ l. ⊎_elim (λ e. inl e) (λ b. inr (b.0, earlier b.0 b.1, b.2)) (h.from z l))
        (λ r. inr (x, itself, r))
        (Contains-append_cases places next z c)

    next_apart : AreApart (map path_of next)
    next_apart = subst (λ o. AreApart (map path_of (stands_in x.0 o))) (sym its_place.2) (stands_apart x.0 its_place.0.components (names_apart fitted well once x.0 its_place.0 its_place.1))

    -- behind a place, its path is the front of the other's
    ends : (y z : Stand) → IsPlace design y → Contains (next_stands design y) z → (i : ℕ) × (z.0 ≡ y.0 ++ i ∷ [])
    ends y z (m, there', named) c =
        let b = behind_which y.0 m z (subst (λ o. Contains (stands_in y.0 o) z) named c) in
        (b.0.declaration.name, ap path_of b.4)

    none_twice : (p : List ℕ) → Contains (map path_of places) p → Contains (map path_of next) p → ⊥
    none_twice p a b =
        let z = from_map path_of places p a in
        let w = from_map path_of next p b in
        let last = ends x w.0 its_place w.1 in
        ⊎_elim
        (λ e. not_snoc x.0 last.0 (sym (ap path_of e) ∙ (z.2 ∙ (sym w.2 ∙ last.1))))
        (λ f.
        let other = ends f.0 z.0 (h.sound f.0 (contains_taken places at f.0 f.1)) f.2 in
        let same = snoc_same f.0.0 x.0 other.0 last.0 (sym other.1 ∙ (z.2 ∙ (sym w.2 ∙ last.1))) in
        apart_taken (map path_of places) at x.0 h.apart (slice_get-map path_of places at ∙ ap (option_map path_of) here')
        (subst (λ l. Contains l x.0) (sym (take-map path_of at places)) (subst (λ q. Contains (map path_of (take at places)) q) same.0 (Contains-map path_of (take at places) f.0 f.1))))
        (h.from z.0 z.1)

    pub listed_next : Listed design start (places ++ next) (at + 1)
    listed_next = record {
      begun = Contains-append_left places next start h.begun;
      sound = λ y c. ⊎_elim (λ l. h.sound y l) (λ r. next_place x y its_place r) (Contains-append_cases places next y c);
      done = done_more;
      from = from_more;
      apart = subst AreApart (sym (map-append path_of places next)) (apart_append (map path_of places) (map path_of next) h.apart next_apart none_twice);
    }

  -- all modules at paths
  comes : (places : List Stand) → ((x : Stand) → Contains places x → (y : Stand) → Contains (next_stands design x) y → Contains places y)
      → (front : List ℕ) (m : TypedModule) (name : ℕ) → Contains places (front, name) → module_named design name ≡ Some m → (rest : List ℕ) (n : TypedModule) → module_within design m rest ≡ Some n
      → (last : ℕ) × Contains places (front ++ rest, last) × (module_named design last ≡ Some n)
  comes places done front m name c named [] n e =
      (name, subst (λ p. Contains places (p, name)) (sym (append-nil front)) c, named ∙ e)
  comes places done front m name c named (i ∷ rest) n e =
      let next = and_then (λ x. module_within design x rest) (inside design m i) n e in
      let to = and_then (module_named design) (target_of m i) next.0 next.1 in
      let there' = done (front, name) c (front ++ i ∷ [], to.0) (next_there (front, name) m i to.0 named to.1) in
      let r = comes places done (front ++ i ∷ []) next.0 to.0 there' to.2 rest n next.2 in
      (r.0, subst (λ p. Contains places (p, r.0)) (append_assoc front (i ∷ []) rest) r.1, r.2)

  pub listed_all : (places : List Stand) (at : ℕ) → Listed design start places at → length places ≤ at → ArePlaces design places
  listed_all places at h past = record {
    each = h.sound;
    every = λ path m e.
        let main = and_then (λ m. module_within design m path) (module_named design design.main) m e in
        comes places (λ x c y b. h.done x (subst (λ l. Contains l x) (sym (take_past places at past)) c) y b) [] main.0 design.main h.begun main.1 path m main.2;
    once = h.apart;
  }

  -- The list as it is held

  pub first_listed : (main : ℕ) (empty all : List Standing) (path : Vec ℕ) → main ≡ fitted.checked.resolved.main.id → empty ≡ [] → path.items ≡ [] → all ≡ empty ++ record { path = path; name = main } ∷ [] → Listed design start (stands_of all) 0
  first_listed main empty all path is e f h =
      listed_first (stands_of all) (ap stands_of (h ∙ ap (λ l. l ++ record { path = path; name = main } ∷ []) e) ∙ ap₂ (λ (p : List ℕ) (n : ℕ). (p, n) ∷ []) f is)

  pub more_listed : (places items next after : List Standing) (at : ℕ) (x : Standing) → Listed design start (stands_of places) at → items ≡ places → at < length items
      → x ≡ get_or items at x → stands_of next ≡ next_stands design (stand_of x) → after ≡ places ++ next → Listed design start (stands_of after) (at + 1)
  more_listed places items next after at x h e below is n a =
      let here' : slice_get places at ≡ Some x = ap (λ l. slice_get l at) (sym e) ∙ slice_get_read items (length items) at x refl below is in
      subst (λ l. Listed design start l (at + 1)) (sym (ap stands_of a ∙ map-append stand_of places next ∙ ap (λ l. stands_of places ++ l) n))
      (listed_next (stands_of places) at (stand_of x) h (slice_get-map stand_of places at ∙ ap (option_map stand_of) here'))

  pub all_listed : (places items : List Standing) (at : ℕ) → Listed design start (stands_of places) at → items ≡ places → length items ≤ at → ArePlaces design (stands_of places)
  all_listed places items at h e past =
      let all = ap length e in
      let same = Rattle.std.proofs.lemmas.List.length-map places stand_of in
      listed_all (stands_of places) at h (omega (arith, past, all, same))

-- The end of the list

pub one_more : (places items next after : List Standing) (at : ℕ) → items ≡ places → at < length items → after ≡ places ++ next → at + 1 ≤ length after
one_more places items next after at e below is =
    let both = ap length is ∙ length-append places next in
    let all = ap length e in
    omega (arith, below, both, all)

-- no list of places is so long that a step would lead behind the last number
pub no_end : (places : Vec Standing) (at : ℕ) → at ≤ length places.items → 2 ^ 63 ≤ at → ⊥
no_end places at within far =
    let whole = places.ok.0 in
    let held = places.ok.1 in
    let small = places.small in
    omega (arith, within, far, whole, held, small)
