-- The walk over the components of a run: what it has left behind, and what is ahead.
use Rattle.std.proofs.Common.{◌≡◌, ℕ, ◌+◌, List, [], ◌∷◌, ◌++◌, map, reverse, length, Option, Some, None, refl, sym, ap, ap₂, ◌∙◌, subst, arith, append-nil, append_assoc, ⊎_elim}
use Rattle.std.specs.Prelude.{Contains, option_and_then}
use Rattle.std.proofs.lemmas.List.{map-append, length-append, reverse-append}
use Rattle.std.proofs.lemmas.List.Concat.{flat_map-cons}
use Rattle.std.proofs.lemmas.List.Elements.{Contains-append_cases}
use Rattle.std.proofs.lemmas.Grind.{flat_map-append}
use Rattle.fir_types.specs.Leaves.{leaves}
use Rattle.fir_tree.specs.declared.scope.Fitted.{Fitted}
use Rattle.fir_meaning.specs.Components.{Design, TypedModule, Component, design_of, module_named, module_at, target_in, HasBundles}
use Rattle.fir_meaning.proofs.Ports.{one_later, from_map, at_snoc, inside, target_is, target_sort}
use Rattle.circuit_laws.specs.WellFormed.{IsWellFormed}
use Rattle.drive_check.proofs.Telling.{AreOnce}
use Rattle.net_of_circuit.specs.FlatOrder.{Placed, InFlatOrder, no_more, one_more, an_instance, all_leaves}
use Rattle.plain_values.specs.declared.site.Site.{Site}
use Rattle.plain_cycle.specs.Layouts.{Located, IsLocated, site_of, located_in}
use Rattle.plain_cycle.proofs.Placing.{AreMeant, start_place}
use Rattle.plain_run.specs.Leaves.{AreInOrder, watched_leaf, run_leaves, leaves_unless, leaves_of_site, leaves_of_sites, located_behind, located_inside}

abbrev placed_of : Located → Placed
placed_of x = record { path = x.path; m = x.m; c = x.c }

abbrev located_at : List ℕ → TypedModule → Component → Located
located_at path m c = record { path = path; m = m; c = c }

-- These components open to those, in flat order.
pub data Opens (design : Design) : List Located → List Placed → Type 0 where
  nothing : Opens design [] []
  itself : {x : Located} {xs : List Located} {rest : List Placed} → target_in x.c.declaration.sort ≡ None → Opens design xs rest → Opens design (x ∷ xs) (placed_of x ∷ rest)
  its_own : {x : Located} {xs : List Located} {own rest : List Placed} (target : ℕ) (n : TypedModule) → target_in x.c.declaration.sort ≡ Some target → module_named design target ≡ Some n
      → InFlatOrder design (x.path ++ x.c.declaration.name ∷ []) n n.components own → Opens design xs rest → Opens design (x ∷ xs) (own ++ rest)

in_order : (design : Design) (path : List ℕ) (m : TypedModule) (cs : List Component) {placed : List Placed} → Opens design (map (located_at path m) cs) placed → InFlatOrder design path m cs placed
in_order design path m [] nothing = no_more
in_order design path m (c ∷ cs) (itself none rest) = one_more none (in_order design path m cs rest)
in_order design path m (c ∷ cs) (its_own target n is found own rest) = an_instance target n is found own (in_order design path m cs rest)

-- what the first ones open to stands before what the others do
record Parted (design : Design) (xs ys : List Located) (all : List Placed) : Type 0 where
  front : List Placed
  rest : List Placed
  whole : front ++ rest ≡ all
  first : Opens design xs front
  second : Opens design ys rest

parted : (design : Design) (xs ys : List Located) {all : List Placed} → Opens design (xs ++ ys) all → Parted design xs ys all
parted design [] ys {all} h = record { front = []; rest = all; whole = refl; first = nothing; second = h }
parted design (x ∷ xs) ys (itself none h) =
    let p = parted design xs ys h in
    record { front = placed_of x ∷ p.front; rest = p.rest; whole = ap (λ l. placed_of x ∷ l) p.whole; first = itself none p.first; second = p.second }
parted design (x ∷ xs) ys (its_own {own = own} target n is found order h) =
    let p = parted design xs ys h in
    record {
      front = own ++ p.front;
      rest = p.rest;
      whole = append_assoc own p.front p.rest ∙ ap (λ l. own ++ l) p.whole;
      first = its_own target n is found order p.first;
      second = p.second;
    }

-- So far the walk has left these components behind, and those are ahead, the first of them last.
pub record Walks (design : Design) (behind ahead : List Site) : Type 0 where
  pub main : TypedModule
  pub found : module_named design design.main ≡ Some main
  pub front : List Placed
  pub left : leaves_of_sites behind ≡ run_leaves front
  pub coming : List Located
  pub held : reverse ahead ≡ map site_of coming
  pub stand : (x : Located) → Contains coming x → IsLocated design x
  pub order : (rest : List Placed) → Opens design coming rest → InFlatOrder design [] main main.components (front ++ rest)

-- Lists

map_nothing : {A B : Type 0} (f : A → B) (xs : List A) → [] ≡ map f xs → xs ≡ []
map_nothing f [] e = refl
map_nothing f (x ∷ xs) e = cc

record FirstOf (A : Type 0) (B : Type 0) (f : A → B) (y : B) (ys : List B) (xs : List A) : Type 0 where
  x : A
  rest : List A
  whole : xs ≡ x ∷ rest
  is : y ≡ f x
  more : ys ≡ map f rest

first_mapped : {A B : Type 0} (f : A → B) (y : B) (ys : List B) (xs : List A) → y ∷ ys ≡ map f xs → FirstOf A B f y ys xs
first_mapped f y ys [] e = cc
first_mapped f y ys (x ∷ xs) e = record { x = x; rest = xs; whole = refl; is = cc; more = cc }

map_map : {A B C : Type 0} (f : B → C) (g : A → B) (xs : List A) → map f (map g xs) ≡ map (λ x. f (g x)) xs
map_map f g [] = refl
map_map f g (x ∷ xs) = ap (λ l. f (g x) ∷ l) (map_map f g xs)

-- Leaves

own_leaves : (x : Located) → target_in x.c.declaration.sort ≡ None → leaves_of_site (site_of x) ≡ run_leaves (placed_of x ∷ [])
own_leaves x none =
    ap (leaves_unless (site_of x)) none
    ∙ (sym (map_map watched_leaf (λ leaf. (placed_of x, leaf)) (leaves x.c.typ))
    ∙ ap (map watched_leaf) (sym (append-nil (map (λ leaf. (placed_of x, leaf)) (leaves x.c.typ)))
    ∙ sym (flat_map-cons (λ (p : Placed). map (λ leaf. (p, leaf)) (leaves p.c.typ)) (placed_of x) [])))

left_more : (behind : List Site) (site : Site) (front more : List Placed) → leaves_of_sites behind ≡ run_leaves front → leaves_of_site site ≡ run_leaves more → leaves_of_sites (behind ++ site ∷ []) ≡ run_leaves (front ++ more)
left_more behind site front more old one =
    flat_map-append leaves_of_site behind (site ∷ [])
    ∙ (ap₂ (λ x y. x ++ y) old (flat_map-cons leaves_of_site site [] ∙ (append-nil (leaves_of_site site) ∙ one))
    ∙ sym (ap (map watched_leaf) (flat_map-append (λ (p : Placed). map (λ leaf. (p, leaf)) (leaves p.c.typ)) front more) ∙ map-append watched_leaf (all_leaves front) (all_leaves more)))

module _ (design : Design) (has : HasBundles design) where
  -- the components of a module at a path
  all_stand : (path : List ℕ) (m : TypedModule) → module_at design path ≡ Some m → (x : Located) → Contains (located_in path (Some m)) x → IsLocated design x
  all_stand path m reached x c =
      let from = from_map (located_at path m) m.components x c in
      subst (IsLocated design) from.2 (record { reached = reached; declared = has.names path m from.0 reached from.1 })

  -- One step further: a component that is no instance is left behind.
  past_leaf : (behind : List Site) (x : Located) (xs : List Located) (main : TypedModule) (front : List Placed) → leaves_of_sites behind ≡ run_leaves front
      → ((rest : List Placed) → Opens design (x ∷ xs) rest → InFlatOrder design [] main main.components (front ++ rest)) → target_in x.c.declaration.sort ≡ None
      → (leaves_of_sites (behind ++ site_of x ∷ []) ≡ run_leaves (front ++ placed_of x ∷ [])) × ((rest : List Placed) → Opens design xs rest → InFlatOrder design [] main main.components ((front ++ placed_of x ∷ []) ++ rest))
  past_leaf behind x xs main front left order none = (
    left_more behind (site_of x) front (placed_of x ∷ []) left (own_leaves x none),
    λ rest opens. subst (InFlatOrder design [] main main.components) (sym (append_assoc front (placed_of x ∷ []) rest)) (order (placed_of x ∷ rest) (itself none opens)),
  )

  -- What an instance opens to is ahead in its place.
  past_instance : (behind : List Site) (x : Located) (xs : List Located) (main : TypedModule) (front : List Placed) (target : ℕ) (n : TypedModule) → leaves_of_sites behind ≡ run_leaves front
      → ((rest : List Placed) → Opens design (x ∷ xs) rest → InFlatOrder design [] main main.components (front ++ rest)) → target_in x.c.declaration.sort ≡ Some target → module_named design target ≡ Some n
      → (leaves_of_sites (behind ++ site_of x ∷ []) ≡ run_leaves front)
      × ((rest : List Placed) → Opens design (located_in (x.path ++ x.c.declaration.name ∷ []) (Some n) ++ xs) rest → InFlatOrder design [] main main.components (front ++ rest))
  past_instance behind x xs main front target n left order is found = (
    left_more behind (site_of x) front [] left (ap (leaves_unless (site_of x)) is) ∙ ap run_leaves (append-nil front),
    λ rest opens.
        let path = x.path ++ x.c.declaration.name ∷ [] in
        let p = parted design (located_in path (Some n)) xs opens in
        subst (λ l. InFlatOrder design [] main main.components (front ++ l)) p.whole
        (order (p.front ++ p.rest) (its_own target n is found (in_order design path n n.components p.first) p.second)),
  )

  walked_on : (behind ahead : List Site) (x : Located) (xs : List Located) (main : TypedModule) (front : List Placed) → module_named design design.main ≡ Some main → leaves_of_sites behind ≡ run_leaves front
      → ((y : Located) → Contains (x ∷ xs) y → IsLocated design y) → ((rest : List Placed) → Opens design (x ∷ xs) rest → InFlatOrder design [] main main.components (front ++ rest))
      → (o : Option ℕ) → target_in x.c.declaration.sort ≡ o → reverse ahead ≡ map site_of (located_behind design (site_of x) o ++ xs) → Walks design (behind ++ site_of x ∷ []) ahead
  walked_on behind ahead x xs main front found left stand order None is held =
      let step = past_leaf behind x xs main front left order is in
      record { main = main; found = found; front = front ++ placed_of x ∷ []; left = step.0; coming = xs; held = held; stand = λ y c. stand y (one_later x xs y c); order = step.1 }
  walked_on behind ahead x xs main front found left stand order (Some target) is held =
      let here' = stand x (0, omega arith, refl) in
      let sort = target_sort x.c.declaration.sort target is in
      let n = has.instances x.path x.m x.c target here'.reached here'.declared sort in
      let step = past_instance behind x xs main front target n.0 left order is n.1 in
      let path = x.path ++ x.c.declaration.name ∷ [] in
      let behind_it : module_at design path ≡ Some n.0 =
      at_snoc design x.path x.c.declaration.name
      ∙ (ap (option_and_then (λ m. inside design m x.c.declaration.name)) here'.reached
      ∙ (ap (option_and_then (module_named design)) (target_is x.m x.c target here'.declared sort) ∙ n.1)) in
      record {
        main = main;
        found = found;
        front = front;
        left = step.0;
        coming = located_in path (Some n.0) ++ xs;
        held = held ∙ ap (λ o. map site_of (located_in path o ++ xs)) n.1;
        stand = λ y c. ⊎_elim
            (λ own. all_stand path n.0 behind_it y own)
            (λ later. stand y (one_later x xs y later))
            (Contains-append_cases (located_in path (Some n.0)) xs y c);
        order = step.1;
      }

  pub walked_more : (behind ahead left after behind' : List Site) (site : Site) → Walks design behind ahead → ahead ≡ left ++ site ∷ [] → reverse after ≡ map site_of (located_inside design site) ++ reverse left
      → behind' ≡ behind ++ site ∷ [] → Walks design behind' after
  walked_more behind ahead left after behind' site h split pushed more =
      let f = first_mapped site_of site (reverse left) h.coming (sym (reverse-append left (site ∷ [])) ∙ (ap reverse (sym split) ∙ h.held)) in
      subst (λ l. Walks design l after) (sym (more ∙ ap (λ s. behind ++ s ∷ []) f.is))
      (walked_on behind after f.x f.rest h.main h.front h.found h.left (λ y c. h.stand y (subst (λ l. Contains l y) (sym f.whole) c))
      (λ rest opens. h.order rest (subst (λ l. Opens design l rest) (sym f.whole) opens)) (target_in f.x.c.declaration.sort) refl
      (pushed ∙ (ap₂ (λ s l. map site_of (located_inside design s) ++ l) f.is f.more ∙ sym (map-append site_of (located_inside design (site_of f.x)) f.rest))))

  pub all_walked : (behind ahead : List Site) → Walks design behind ahead → ahead ≡ [] → AreInOrder design behind
  all_walked behind ahead h none =
      let past : h.coming ≡ [] = map_nothing site_of h.coming (ap reverse (sym none) ∙ h.held) in
      record {
        placed = h.front;
        order = record {
          main = h.main;
          found = h.found;
          order = subst (InFlatOrder design [] h.main h.main.components) (append-nil h.front) (h.order [] (subst (λ l. Opens design l []) (sym past) nothing));
        };
        leaves = h.left;
      }

-- Main's components are ahead.
pub none_walked : (fitted : Fitted) → IsWellFormed fitted → AreOnce fitted → AreMeant fitted → (behind ahead : List Site) → behind ≡ []
    → reverse ahead ≡ map site_of (located_in [] (module_named (design_of fitted) fitted.checked.resolved.main.id)) → Walks (design_of fitted) behind ahead
none_walked fitted well once meant behind ahead none is =
    let design = design_of fitted in
    let main = start_place fitted well once meant in
    record {
      main = main.0;
      found = main.2;
      front = [];
      left = ap leaves_of_sites none;
      coming = located_in [] (Some main.0);
      held = is ∙ ap (λ o. map site_of (located_in [] o)) main.2;
      stand = all_stand design well.bundles [] main.0 main.1;
      order = λ rest opens. in_order design [] main.0 main.0.components opens;
    }

pub one_longer : (at : ℕ) (behind behind' : List Site) (site : Site) → at ≡ length behind → behind' ≡ behind ++ site ∷ [] → at + 1 ≡ length behind'
one_longer at behind behind' site counted more =
    let both = ap length more ∙ length-append behind (site ∷ []) in
    omega (arith, counted, both)
