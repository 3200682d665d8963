-- The test for the same key is that for the same leaf of the run.
use Rattle.std.proofs.Common.{◌≡◌, ℕ, Bool, true, false, ◌&&◌, ◌||◌, List, [], ◌∷◌, ◌++◌, map, refl, sym, ap, ap₂, ◌∙◌, if◌then◌else◌}
use Rattle.std.specs.List.{list_any}
use Rattle.std.proofs.lemmas.Bool.{eqb-true}
use Rattle.std.proofs.lemmas.List.Folds.{list_any-append}
use Rattle.indexmap.specs.IndexSet.{insert_key}
use Rattle.fir_meaning.specs.Components.{FlatLeaf}
use Rattle.fir_meaning.specs.Drives.{same_way, same_step}
use Rattle.drive_check.specs.declared.leaf_set.Step.{Step}
use Rattle.drive_check.specs.declared.leaf_set.Step.TheVariants as own
use Rattle.drive_check.specs.Keys.{step_of}
use Rattle.drive_check.proofs.KeyTests.{step_eq, way_equal}
use Rattle.clock_check.specs.declared.flat_set.FlatKey.{FlatKey}
use Rattle.clock_check.specs.contracts.flat_set.FlatKeyPartialEq.TheImpl as key_test
use Rattle.clock_check.specs.Flats.{leaf_of_flat, same_path, same_flat, is_within}
use lib.Pointwise.{pointwise}
use lib.Dec.{eqb}

abbrev pub flat_eq : FlatKey → FlatKey → Bool
flat_eq = (key_test.eq-value).it

step_same : (a b : Step) → step_eq a b ≡ same_step (step_of a) (step_of b)
step_same (own.Field m) (own.Field n) = refl
step_same (own.Field m) (own.Element n) = refl
step_same (own.Element m) (own.Field n) = refl
step_same (own.Element m) (own.Element n) = refl

way_same : (a b : List Step) → pointwise step_eq a b ≡ same_way (map step_of a) (map step_of b)
way_same [] [] = refl
way_same [] (y ∷ b) = refl
way_same (x ∷ a) [] = refl
way_same (x ∷ a) (y ∷ b) = ap₂ (λ p q. p && q) (step_same x y) (way_same a b)

path_same : (a b : List ℕ) → pointwise eqb a b ≡ same_path a b
path_same [] [] = refl
path_same [] (y ∷ b) = refl
path_same (x ∷ a) [] = refl
path_same (x ∷ a) (y ∷ b) = ap (λ q. eqb x y && q) (path_same a b)

pub flat_same : (a b : FlatKey) → flat_eq a b ≡ same_flat (leaf_of_flat a) (leaf_of_flat b)
flat_same a b = ap₂ (λ p q. p && (eqb a.component b.component && q)) (path_same a.path.items b.path.items) (way_same a.way.items b.way.items)

and_true : (p q : Bool) → (p && q) ≡ true → (p ≡ true) × (q ≡ true)
and_true true q e = (refl, e)
and_true false q e = cc

path_equal : (a b : List ℕ) → same_path a b ≡ true → a ≡ b
path_equal [] [] e = refl
path_equal [] (y ∷ b) e = cc
path_equal (x ∷ a) [] e = cc
path_equal (x ∷ a) (y ∷ b) e =
    let both = and_true (eqb x y) (same_path a b) e in
    ap₂ (λ s w. s ∷ w) (eqb-true x y both.0) (path_equal a b both.1)

pub flat_equal : (a b : FlatLeaf) → same_flat a b ≡ true → a ≡ b
flat_equal a b e =
    let both = and_true (same_path a.path b.path) (eqb a.component b.component && same_way a.way b.way) e in
    let rest = and_true (eqb a.component b.component) (same_way a.way b.way) both.1 in
    λ i. record { path = path_equal a.path b.path both.0 i; component = eqb-true a.component b.component rest.0 i; way = way_equal a.way b.way rest.1 i }

pub turned : (a b : FlatLeaf) → same_flat a b ≡ same_flat b a
turned a b = by (same_flat a b) (same_flat b a) refl refl
  where
    by : (x y : Bool) → same_flat a b ≡ x → same_flat b a ≡ y → x ≡ y
    by true true e f = refl
    by true false e f = sym (ap₂ same_flat (sym (flat_equal a b e)) (flat_equal a b e) ∙ e) ∙ f
    by false true e f = sym e ∙ ap₂ same_flat (sym (flat_equal b a f)) (flat_equal b a f) ∙ f
    by false false e f = refl

pub asked : (keys : List FlatKey) (key : FlatKey) → list_any (flat_eq key) keys ≡ is_within keys (leaf_of_flat key)
asked [] key = refl
asked (k ∷ keys) key = ap₂ (λ p q. p || q) (flat_same key k ∙ turned (leaf_of_flat key) (leaf_of_flat k)) (asked keys key)

known : (b c : Bool) → (c ≡ true → b ≡ true) → b ≡ (b || c)
known true c h = refl
known false true h = h refl
known false false h = refl

right_false : (b : Bool) → (b || false) ≡ b
right_false true = refl
right_false false = refl

pub one_more : (keys : List FlatKey) (key : FlatKey) (x : FlatLeaf) → is_within (insert_key flat_eq keys key) x ≡ (is_within keys x || same_flat (leaf_of_flat key) x)
one_more keys key x = by (list_any (flat_eq key) keys) refl
  where
    there' : list_any (flat_eq key) keys ≡ true → same_flat (leaf_of_flat key) x ≡ true → is_within keys x ≡ true
    there' e same = ap (is_within keys) (sym (flat_equal (leaf_of_flat key) x same)) ∙ (sym (asked keys key) ∙ e)

    by : (b : Bool) → list_any (flat_eq key) keys ≡ b → is_within (if b then keys else keys ++ key ∷ []) x ≡ (is_within keys x || same_flat (leaf_of_flat key) x)
    by true e = known (is_within keys x) (same_flat (leaf_of_flat key) x) (there' e)
    by false e = list_any-append (λ k. same_flat (leaf_of_flat k) x) keys (key ∷ []) ∙ ap (λ q. is_within keys x || q) (right_false (same_flat (leaf_of_flat key) x))
