-- What a module sees of a layout.
use Rattle.std.proofs.Common.{◌≡◌, ℕ, zero, suc, ◌==◌, Bool, true, false, ◌&&◌, cond, List, [], ◌∷◌, map, find, Option, Some, None, refl, sym, ap, ap₂, ◌∙◌, subst, arith, true≢false, eq-eqb}
use Rattle.std.specs.Prelude.{Contains, option_map, option_and_then}
use Rattle.std.proofs.lemmas.Bool.{eqb-true}
use Rattle.bit_words.specs.declared.value.Value.{Value}
use Rattle.fir_types.specs.declared.leaf.TypeLeaf.{TypeLeaf}
use Rattle.fir_types.specs.Leaves.{leaves}
use Rattle.fir_tree.specs.declared.scope.Fitted.{Fitted}
use Rattle.fir_meaning.specs.Components.{Design, Component, TypedModule, FlatLeaf, design_of, module_at, component_named, target_in, target_of, type_in, flat}
use Rattle.fir_meaning.specs.Values.{scene_of, scene_with, seen_through}
use Rattle.fir_meaning.specs.WellTyped.{known_in}
use Rattle.fir_meaning.specs.States.{located, IsLeafOf, leaf_of}
use Rattle.fir_meaning.specs.Loops.{HasLeaves}
use Rattle.fir_meaning.proofs.Ports.{and_then, found, component_found, from_map}
use Rattle.fir_meaning.proofs.Tracking.{Contains-map, Contains-flat_map, none_some}
use Rattle.fir_names.proofs.Graphs.{some_same}
use Rattle.circuit_laws.specs.WellFormed.{IsWellFormed}
use Rattle.circuit_laws.proofs.Reached.{known_module}
use Rattle.plain_values.specs.declared.site.Site.{Site}
use Rattle.plain_values.specs.Sites.{same_path, is_at, site_at, target_at, type_or_empty, valuation_of, scene_at, known_at, AreNarrow}
use Rattle.plain_cycle.specs.Layouts.{Located, IsLocated, site_with, site_of, flat_leaves, all_flat, AreAll}
use Rattle.plain_cycle.specs.Parts.{bare}

-- Tests

pub and_parts : (a b : Bool) → (a && b) ≡ true → (a ≡ true) × (b ≡ true)
and_parts true b e = (refl, e)
and_parts false b e = absurd (true≢false (sym e))

pub path_equal : (a b : List ℕ) → same_path a b ≡ true → a ≡ b
path_equal [] [] e = refl
path_equal [] (y ∷ b) e = absurd (true≢false (sym e))
path_equal (x ∷ a) [] e = absurd (true≢false (sym e))
path_equal (x ∷ a) (y ∷ b) e =
    let both = and_parts (x == y) (same_path a b) e in
    ap₂ (λ (s : ℕ) (p : List ℕ). s ∷ p) (eqb-true x y both.0) (path_equal a b both.1)

pub path_itself : (path : List ℕ) → same_path path path ≡ true
path_itself [] = refl
path_itself (i ∷ path) = ap₂ (λ a b. a && b) (eq-eqb i i refl) (path_itself path)

at_itself : (site : Site) → is_at site.path site.name site ≡ true
at_itself site = ap₂ (λ a b. a && b) (eq-eqb site.name site.name refl) (path_itself site.path)

some_found : {A : Type 0} (test : A → Bool) (xs : List A) (x : A) → Contains xs x → test x ≡ true → find test xs ≡ None → ⊥
some_found test [] x c h e = Rattle.drive_check.proofs.Telling.none_in x c
some_found {A} test (y ∷ xs) x c h e = by_test (test y) refl e (λ rest f. some_found test xs x rest h f)
  where
    by_test : (b : Bool) → test y ≡ b → cond b (Some y) (find test xs) ≡ None → (Contains xs x → find test xs ≡ None → ⊥) → ⊥
    by_test true q f later = none_some (sym f)
    by_test false q f later = by_place c
      where
        by_place : Contains (y ∷ xs) x → ⊥
        by_place (zero, below, is) = true≢false (sym h ∙ (ap test (sym is) ∙ q))
        by_place (suc k, below, is) = later (k, omega (arith, below), is) f

-- Components by name

located_there : (design : Design) (path : List ℕ) (name : ℕ) (m : TypedModule) → module_at design path ≡ Some m → located design path name ≡ option_map (λ c. (m, c)) (component_named m name)
located_there design path name m at = ap (option_and_then (λ m. option_map (λ c. (m, c)) (component_named m name))) at

pub located_is : (design : Design) (y : Located) → IsLocated design y → located design y.path y.c.declaration.name ≡ Some (y.m, y.c)
located_is design y is = located_there design y.path y.c.declaration.name y.m is.reached ∙ ap (option_map (λ c. (y.m, c))) is.declared

mapped_some : {A B : Type 0} (f : A → B) (o : Option A) (y : B) → option_map f o ≡ Some y → (x : A) × (o ≡ Some x) × (f x ≡ y)
mapped_some f None y e = absurd (none_some e)
mapped_some f (Some x) y e = (x, refl, some_same e)

is_located : (design : Design) (path : List ℕ) (name : ℕ) (m : TypedModule) (c : Component) → located design path name ≡ Some (m, c)
    → IsLocated design (record { path = path; m = m; c = c }) × (c.declaration.name ≡ name)
is_located design path name m c e =
    let at = and_then (λ (n : TypedModule). option_map (λ (d : Component). (n, d)) (component_named n name)) (module_at design path) (m, c) e in
    let d = mapped_some (λ (d : Component). (at.0, d)) (component_named at.0 name) (m, c) at.2 in
    let module_is : at.0 ≡ m = ap (λ (p : TypedModule × Component). p.0) d.2 in
    let named : component_named m name ≡ Some c = ap (λ (n : TypedModule). component_named n name) (sym module_is) ∙ (d.1 ∙ ap (λ (p : TypedModule × Component). Some p.1) d.2) in
    let its = component_found m name c named in
    (record { reached = at.1 ∙ ap Some module_is; declared = ap (component_named m) its.0 ∙ named }, its.0)

module _ (design : Design) (all : List Located) (are : AreAll design all) where
  pub found_at : (path : List ℕ) (name : ℕ) → site_at (map site_of all) path name ≡ option_map (λ found. site_with path (bare found.1)) (located design path name)
  found_at path name = by (site_at (map site_of all) path name) (located design path name) refl refl
    where
      by : (s : Option Site) (o : Option (TypedModule × Component)) → site_at (map site_of all) path name ≡ s → located design path name ≡ o → s ≡ option_map (λ found. site_with path (bare found.1)) o
      by None None e f = refl
      by None (Some (m, c)) e f =
          let is = is_located design path name m c f in
          absurd (some_found (is_at path name) (map site_of all) (site_of (record { path = path; m = m; c = c }))
          (Contains-map site_of all (record { path = path; m = m; c = c }) (are.every (record { path = path; m = m; c = c }) is.0))
          (subst (λ (n : ℕ). is_at path n (site_of (record { path = path; m = m; c = c })) ≡ true) is.1 (at_itself (site_of (record { path = path; m = m; c = c })))) e)
      by (Some s) o e f =
          let hit = found (is_at path name) (map site_of all) s e in
          let y = from_map site_of all s hit.1 in
          let parts = and_parts (s.name == name) (same_path s.path path) hit.0 in
          let here' : y.0.path ≡ path = ap (λ (z : Site). z.path) y.2 ∙ path_equal s.path path parts.1 in
          let name_is : y.0.c.declaration.name ≡ name = ap (λ (z : Site). z.name) y.2 ∙ eqb-true s.name name parts.0 in
          let is = located_is design y.0 (are.each y.0 y.1) in
          let there' : located design path name ≡ Some (y.0.m, y.0.c) = ap₂ (located design) (sym here') (sym name_is) ∙ is in
          ap Some (sym y.2 ∙ ap (λ p. site_with p (bare y.0.c)) here') ∙ ap (option_map (λ found. site_with path (bare found.1))) (sym there' ∙ f)

  module _ (path : List ℕ) (m : TypedModule) (at : module_at design path ≡ Some m) where
    there_at : (name : ℕ) → site_at (map site_of all) path name ≡ option_map (λ (found : TypedModule × Component). site_with path (bare found.1)) (option_map (λ c. (m, c)) (component_named m name))
    there_at name = found_at path name ∙ ap (option_map (λ (found : TypedModule × Component). site_with path (bare found.1))) (located_there design path name m at)

    type_is : (name : ℕ) → type_or_empty (site_at (map site_of all) path name) ≡ type_in m name
    type_is name = ap type_or_empty (there_at name) ∙ by (component_named m name)
      where
        by : (o : Option Component) → type_or_empty (option_map (λ (found : TypedModule × Component). site_with path (bare found.1)) (option_map (λ c. (m, c)) o)) ≡ Rattle.fir_meaning.specs.Components.type_or_empty o
        by None = refl
        by (Some c) = refl

    target_is : (name : ℕ) → target_at (map site_of all) path name ≡ target_of m name
    target_is name = ap (option_and_then (λ (s : Site). s.target)) (there_at name) ∙ by (component_named m name)
      where
        by : (o : Option Component) → option_and_then (λ (s : Site). s.target) (option_map (λ (found : TypedModule × Component). site_with path (bare found.1)) (option_map (λ c. (m, c)) o))
            ≡ option_and_then (λ (c : Component). target_in c.declaration.sort) o
        by None = refl
        by (Some c) = refl

    pub known_is : known_at (map site_of all) path ≡ known_in m
    known_is = λ i name. known name i
      where
        by : (o : Option Component) → option_map (λ (s : Site). s.typ) (option_map (λ (found : TypedModule × Component). site_with path (bare found.1)) (option_map (λ c. (m, c)) o)) ≡ option_map (λ (c : Component). c.typ) o
        by None = refl
        by (Some c) = refl

        known : (name : ℕ) → known_at (map site_of all) path name ≡ known_in m name
        known name = ap (option_map (λ (s : Site). s.typ)) (there_at name) ∙ by (component_named m name)

    pub scene_is : (values : List (List Value)) → scene_at (map site_of all) values path ≡ scene_of m path (valuation_of (map site_of all) values)
    scene_is values = λ i. scene_with (λ name. type_is name i) (λ name way. seen_through (valuation_of (map site_of all) values) path name (target_is name i) way)

-- No component is too wide.
pub sites_narrow : (fitted : Fitted) → IsWellFormed fitted → (all : List Located) → AreAll (design_of fitted) all → AreNarrow (map site_of all)
sites_narrow fitted well all are site c =
    let y = from_map site_of all site c in
    let is = are.each y.0 y.1 in
    let its = known_module fitted well y.0.path y.0.m is.reached in
    ap (λ (s : Site). Rattle.fir_meaning.specs.WellTyped.is_narrow s.typ) (sym y.2) ∙ its.typed.parts y.0.c (component_found y.0.m y.0.c.declaration.name y.0.c is.declared).1

-- All leaves of the run are listed.
pub leaves_listed : (design : Design) (all : List Located) → AreAll design all → (x : FlatLeaf) → IsLeafOf design x → Contains (all_flat all) x
leaves_listed design all are x l =
    let y : Located = record { path = l.path; m = l.m; c = l.c } in
    subst (λ z. Contains (all_flat all) z) l.is
    (Contains-flat_map flat_leaves all y (flat l.m l.path (leaf_of l.c l.leaf)) (are.every y (record { reached = l.stands.reached; declared = l.stands.declared }))
    (Contains-map (λ (leaf : TypeLeaf). flat l.m l.path (leaf_of l.c leaf)) (leaves l.c.typ) l.leaf l.stands.listed))

pub has_leaves : (design : Design) (all : List Located) → AreAll design all → (some : List FlatLeaf) → HasLeaves design some → HasLeaves design (all_flat all)
has_leaves design all are some has = record { listed = leaves_listed design all are; closed = has.closed }
