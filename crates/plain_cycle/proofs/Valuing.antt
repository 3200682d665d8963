-- What values beside a layout give, where each is what a rule says of its leaf.
use Rattle.std.proofs.Common.{◌≡◌, ℕ, ◌==◌, Bool, true, false, cond, List, [], ◌∷◌, map, drop, find, length, Option, Some, None, ℤ, pos, refl, sym, ap, ap₂, ◌∙◌, arith, slice_get, if◌then◌else◌}
use Rattle.std.specs.Prelude.{option_map}
use Rattle.std.proofs.lemmas.Bool.{eqb-true}
use Rattle.bit_words.specs.declared.value.Value.{Value}
use Rattle.bit_words.specs.Values.{integer_of}
use Rattle.fir_types.specs.declared.leaf.TypeLeaf.{TypeLeaf}
use Rattle.fir_types.specs.declared.leaf.PathStep.{PathStep}
use Rattle.fir_types.specs.Leaves.{leaves}
use Rattle.fir_meaning.specs.Components.{Design, Component, TypedModule}
use Rattle.fir_meaning.specs.Drives.{same_way}
use Rattle.fir_meaning.specs.States.{located, where_located, or_else}
use Rattle.fir_meaning.proofs.Ports.{found}
use Rattle.fir_meaning.proofs.Tracking.{none_some}
use Rattle.fir_names.proofs.Graphs.{some_same}
use Rattle.plain_values.specs.Sites.{same_path, is_at, beside_leaf, value_on, integer_or_zero, valuation_of}
use Rattle.plain_cycle.specs.Layouts.{Located, site_with, site_of, AreAll}
use Rattle.plain_cycle.specs.Parts.{bare}
use Rattle.plain_cycle.proofs.Seeing.{and_parts, path_equal, located_is, found_at}

abbrev pub Rule : Type 0
Rule = List ℕ → TypedModule × Component → TypeLeaf → ℤ

head_same : {A : Type 0} {x y : A} {xs ys : List A} → x ∷ xs ≡ y ∷ ys → x ≡ y
head_same e = some_same (ap (λ l. slice_get l 0) e)

tail_same : {A : Type 0} {x y : A} {xs ys : List A} → x ∷ xs ≡ y ∷ ys → xs ≡ ys
tail_same e = ap (drop 1) e

beside_is : (g : TypeLeaf → ℤ) (way : List PathStep) (ls : List TypeLeaf) (vs : List Value) → map integer_of vs ≡ map g ls
    → integer_or_zero (beside_leaf way ls vs) ≡ or_else (pos 0) (option_map g (find (λ leaf. same_way leaf.path way) ls))
beside_is g way [] vs e = refl
beside_is g way (l ∷ ls) [] e = absurd (let n = ap length e in omega (arith, n))
beside_is g way (l ∷ ls) (v ∷ vs) e = by (same_way l.path way) (beside_is g way ls vs (tail_same e))
  where
    by : (b : Bool) → integer_or_zero (beside_leaf way ls vs) ≡ or_else (pos 0) (option_map g (find (λ leaf. same_way leaf.path way) ls))
        → integer_or_zero (if b then Some v else beside_leaf way ls vs) ≡ or_else (pos 0) (option_map g (cond b (Some l) (find (λ leaf. same_way leaf.path way) ls)))
    by true later = head_same e
    by false later = later

find_mapped : {A B : Type 0} (f : A → B) (test : B → Bool) (xs : List A) → find test (map f xs) ≡ option_map f (find (λ x. test (f x)) xs)
find_mapped f test [] = refl
find_mapped f test (x ∷ xs) = by (test (f x)) (find_mapped f test xs)
  where
    by : (b : Bool) → find test (map f xs) ≡ option_map f (find (λ x. test (f x)) xs) → cond b (Some (f x)) (find test (map f xs)) ≡ option_map f (cond b (Some x) (find (λ x. test (f x)) xs))
    by true later = refl
    by false later = later

module _ (f : Rule) where
  abbrev pub integers_at : Located → List ℤ
  integers_at x = map (f x.path (x.m, x.c)) (leaves x.c.typ)

  abbrev at_first : List PathStep → Option Located → ℤ
  at_first way (Some x) = or_else (pos 0) (option_map (f x.path (x.m, x.c)) (find (λ leaf. same_way leaf.path way) (leaves x.c.typ)))
  at_first way None = pos 0

  first_is : (path : List ℕ) (name : ℕ) (way : List PathStep) (xs : List Located) (values : List (List Value)) → map (map integer_of) values ≡ map integers_at xs
      → integer_or_zero (value_on (map site_of xs) values path name way) ≡ at_first way (find (λ x. is_at path name (site_of x)) xs)
  first_is path name way [] values e = refl
  first_is path name way (x ∷ xs) [] e = absurd (let n = ap length e in omega (arith, n))
  first_is path name way (x ∷ xs) (vs ∷ values) e = by (is_at path name (site_of x)) (first_is path name way xs values (tail_same e))
    where
      by : (b : Bool) → integer_or_zero (value_on (map site_of xs) values path name way) ≡ at_first way (find (λ x. is_at path name (site_of x)) xs)
          → integer_or_zero (if b then beside_leaf way (leaves x.c.typ) vs else value_on (map site_of xs) values path name way)
          ≡ at_first way (cond b (Some x) (find (λ x. is_at path name (site_of x)) xs))
      by true later = beside_is (f x.path (x.m, x.c)) way (leaves x.c.typ) vs (head_same e)
      by false later = later

module _ (design : Design) (all : List Located) (are : AreAll design all) where
  -- the first component of a name at a path
  pub first_located : (path : List ℕ) (name : ℕ) → find (λ x. is_at path name (site_of x)) all ≡ option_map (λ (p : TypedModule × Component). record { path = path; m = p.0; c = p.1 }) (located design path name)
  first_located path name = by (find (λ x. is_at path name (site_of x)) all) (located design path name) refl refl
    where
      by : (s : Option Located) (o : Option (TypedModule × Component)) → find (λ x. is_at path name (site_of x)) all ≡ s → located design path name ≡ o
          → s ≡ option_map (λ (p : TypedModule × Component). record { path = path; m = p.0; c = p.1 }) o
      by None None e g = refl
      by None (Some p) e g =
          absurd (none_some (sym (find_mapped site_of (is_at path name) all ∙ ap (option_map site_of) e) ∙ (found_at design all are path name ∙ ap (option_map (λ found. site_with path (bare found.1))) g)))
      by (Some x) o e g =
          let hit = found (λ (x : Located). is_at path name (site_of x)) all x e in
          let parts = and_parts (x.c.declaration.name == name) (same_path x.path path) hit.0 in
          let here' : x.path ≡ path = path_equal x.path path parts.1 in
          let is : located design path name ≡ Some (x.m, x.c) = ap₂ (located design) (sym here') (sym (eqb-true x.c.declaration.name name parts.0)) ∙ located_is design x (are.each x hit.1) in
          ap (λ p. Some (record { path = p; m = x.m; c = x.c })) here' ∙ ap (option_map (λ (p : TypedModule × Component). record { path = path; m = p.0; c = p.1 })) (sym is ∙ g)

  pub values_told : (f : Rule) (values : List (List Value)) → map (map integer_of) values ≡ map (integers_at f) all → (path : List ℕ) (name : ℕ) (way : List PathStep)
      → valuation_of (map site_of all) values path name way
      ≡ where_located (pos 0) (λ p. or_else (pos 0) (option_map (f path p) (find (λ leaf. same_way leaf.path way) (leaves p.1.typ)))) (located design path name)
  values_told f values e path name way =
      first_is f path name way all values e ∙ (ap (at_first f way) (first_located path name) ∙ by (located design path name))
    where
      by : (o : Option (TypedModule × Component)) → at_first f way (option_map (λ (p : TypedModule × Component). record { path = path; m = p.0; c = p.1 }) o)
          ≡ where_located (pos 0) (λ p. or_else (pos 0) (option_map (f path p) (find (λ leaf. same_way leaf.path way) (leaves p.1.typ)))) o
      by None = refl
      by (Some p) = refl
