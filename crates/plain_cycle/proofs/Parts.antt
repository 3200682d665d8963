-- The components of a run at the places of its layout.
use Rattle.std.proofs.Common.{◌≡◌, ℕ, zero, suc, ◌<◌, ◌≤◌, ◌==◌, Bool, true, false, cond, List, [], ◌∷◌, map, length, get_or, find, Option, Some, None, if◌then◌else◌, refl, sym, ap, ap₂, ◌∙◌, subst, arith}
use Rattle.std.specs.Prelude.{Contains, option_map}
use Rattle.std.proofs.lemmas.Bool.{eqb-true}
use Rattle.std.proofs.lemmas.List.{length-map}
use Rattle.fir_meaning.specs.Components.{Design, TypedModule, Component}
use Rattle.fir_meaning.specs.States.{located}
use Rattle.fir_meaning.proofs.Tracking.{none_some}
use Rattle.plain_values.specs.declared.site.Site.{Site}
use Rattle.plain_values.specs.Sites.{same_path, is_at, site_at}
use Rattle.plain_cycle.specs.declared.declarations.Declaration.{Declaration}
use Rattle.plain_cycle.specs.Held.{held}
use Rattle.plain_cycle.specs.Parts.{bare}
use Rattle.plain_cycle.specs.Layouts.{Located, site_of, site_with, kept_at, IsLayout}
use Rattle.plain_cycle.proofs.Seeing.{and_parts, path_equal, located_is, found_at}
use Rattle.plain_cycle.specs.declared.run.Part.{Part}
use Rattle.plain_cycle.specs.Firsts.{first_beside}
use Rattle.plain_cycle.specs.Runs.{IsPart}

there : {A : Type 0} (xs : List A) (k : ℕ) → k < length xs → (x : A) × (x ≡ get_or xs k x)
there [] k h = absurd (omega (arith, h))
there (x ∷ xs) zero h = (x, refl)
there (x ∷ xs) (suc k) h = there xs k (omega (arith, h))

-- items at one place of lists whose images are the same
same_at : {A B C : Type 0} (f : A → C) (g : B → C) (xs : List A) (ys : List B) (k : ℕ) (x : A) (y : B) → map f xs ≡ map g ys → k < length ys → x ≡ get_or xs k x → y ≡ get_or ys k y → f x ≡ g y
same_at f g [] [] k x y e h p q = absurd (omega (arith, h))
same_at f g [] (b ∷ ys) k x y e h p q = cc
same_at f g (a ∷ xs) [] k x y e h p q = cc
same_at f g (a ∷ xs) (b ∷ ys) zero x y e h p q = let heads : f a ≡ g b = cc in ap f p ∙ (heads ∙ sym (ap g q))
same_at f g (a ∷ xs) (b ∷ ys) (suc k) x y e h p q = let tails : map f xs ≡ map g ys = cc in same_at f g xs ys k x y tails (omega (arith, h)) p q

mapped_itself : {A : Type 0} (xs : List A) → map (λ x. x) xs ≡ xs
mapped_itself [] = refl
mapped_itself (x ∷ xs) = ap (λ l. x ∷ l) (mapped_itself xs)

contained_at : {A : Type 0} (xs : List A) (k : ℕ) (x : A) → k < length xs → x ≡ get_or xs k x → Contains xs x
contained_at [] k x h is = absurd (omega (arith, h))
contained_at (a ∷ xs) zero x h is = (0, omega arith, sym is)
contained_at (a ∷ xs) (suc k) x h is = let rest = contained_at xs k x (omega (arith, h)) is in (suc rest.0, omega (arith, rest.1), rest.2)

-- where no item meets the test
none_found : {A B : Type 0} (test : A → Bool) (xs : List A) (ys : List B) → length xs ≤ length ys → first_beside test xs ys ≡ None → find test xs ≡ None
none_found test [] ys h e = refl
none_found test (x ∷ xs) [] h e = absurd (omega (arith, h))
none_found test (x ∷ xs) (y ∷ ys) h e = by (test x) e (λ rest. none_found test xs ys (omega (arith, h)) rest)
  where
    by : (b : Bool) → (if b then Some (x, y) else first_beside test xs ys) ≡ None → (first_beside test xs ys ≡ None → find test xs ≡ None) → cond b (Some x) (find test xs) ≡ None
    by true f later = absurd (none_some (sym f))
    by false f later = later f

no_image : {A B : Type 0} (f : A → B) (o : Option A) → option_map f o ≡ None → o ≡ None
no_image f None e = refl
no_image f (Some x) e = absurd (none_some (sym e))

module _ (design : Design) (sites : List Site) (declared : List Declaration) (layout : IsLayout design sites declared) where
  pub so_many_sites : length sites ≡ length layout.all
  so_many_sites = ap length layout.lists.sites ∙ length-map layout.all site_of

  pub so_many_declared : length declared ≡ length layout.all
  so_many_declared = sym (length-map declared held) ∙ (ap length layout.lists.declared ∙ length-map layout.all kept_at)

  -- the component at a place
  pub record Is (k : ℕ) (part : Part) (x : Located) : Type 0 where
    pub below : k < length layout.all
    pub at : x ≡ get_or layout.all k x
    pub is : IsPart design x part

  pub part_there : (k : ℕ) (part : Part) → k < length sites → part.site.now ≡ get_or sites k part.site.now → part.declaration ≡ get_or declared k part.declaration → (x : Located) × Is k part x
  part_there k part h site declaration =
      let below : k < length layout.all = subst (λ n. k < n) so_many_sites h in
      let x = there layout.all k below in (
        x.0,
        record {
          below = below;
          at = x.1;
          is = record {
            located = layout.are.each x.0 (contained_at layout.all k x.0 below x.1);
            site = same_at (λ s. s) site_of sites layout.all k part.site.now x.0 (mapped_itself sites ∙ layout.lists.sites) below site x.1;
            declared = same_at held kept_at declared layout.all k part.declaration x.0 layout.lists.declared below declaration x.1;
          };
        },
      )

  pub part_found : (path : List ℕ) (name k : ℕ) (part : Part) → k < length sites → part.site.now ≡ get_or sites k part.site.now → part.declaration ≡ get_or declared k part.declaration
      → is_at path name part.site.now ≡ true → (x : Located) × IsPart design x part × (x.path ≡ path) × (located design path name ≡ Some (x.m, x.c))
  part_found path name k part h site declaration stands =
      let x = part_there k part h site declaration in
      let is = x.1.is in
      let parts = and_parts (part.site.now.name == name) (same_path part.site.now.path path) stands in
      let path_is : x.0.path ≡ path = sym (ap (λ (s : Site). s.path) is.site) ∙ path_equal part.site.now.path path parts.1 in
      let name_is : x.0.c.declaration.name ≡ name = sym (ap (λ (s : Site). s.name) is.site) ∙ eqb-true part.site.now.name name parts.0 in
      (x.0, is, path_is, ap₂ (located design) (sym path_is) (sym name_is) ∙ located_is design x.0 is.located)

  pub part_missing : (path : List ℕ) (name : ℕ) → first_beside (is_at path name) sites declared ≡ None → located design path name ≡ None
  part_missing path name e =
      no_image (λ (found : TypedModule × Component). site_with path (bare found.1)) (located design path name)
      (sym (ap (λ l. site_at l path name) layout.lists.sites ∙ found_at design layout.all layout.are path name)
      ∙ none_found (is_at path name) sites declared (omega (arith, so_many_sites, so_many_declared)) e)
