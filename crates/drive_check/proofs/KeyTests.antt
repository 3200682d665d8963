-- The test for the same key is that for the same leaf, and what sets of keys hold after they are changed.
use Rattle.std.proofs.Common.{◌≡◌, Bool, true, false, ◌&&◌, ◌||◌, List, [], ◌∷◌, ◌++◌, map, filter, refl, sym, ap, ap₂, ◌∙◌, if◌then◌else◌}
use Rattle.std.specs.List.{list_any}
use Rattle.std.proofs.lemmas.Bool.{eqb-true}
use Rattle.std.proofs.lemmas.List.Folds.{list_any-append}
use Rattle.indexmap.specs.IndexSet.{insert_key, insert_all}
use Rattle.fir_types.specs.declared.leaf.PathStep.{PathStep}
use Rattle.fir_types.specs.declared.leaf.PathStep.TheVariants as step
use Rattle.fir_meaning.specs.Components.{Leaf}
use Rattle.fir_meaning.specs.Drives.{same_leaf, same_way, same_step}
use Rattle.drive_check.specs.declared.leaf_set.Step.{Step}
use Rattle.drive_check.specs.declared.leaf_set.Step.TheVariants as own
use Rattle.drive_check.specs.declared.leaf_set.LeafKey.{LeafKey}
use Rattle.drive_check.specs.contracts.leaf_set.StepPartialEq.TheImpl as step_test
use Rattle.drive_check.specs.contracts.leaf_set.LeafKeyPartialEq.TheImpl as key_test
use Rattle.drive_check.specs.Keys.{leaf_of_key, is_among, step_of}
use lib.Pointwise.{pointwise}
use lib.Dec.{eqb}

abbrev pub step_eq : Step → Step → Bool
step_eq = (step_test.eq-value).it

abbrev pub key_eq : LeafKey → LeafKey → Bool
key_eq = (key_test.eq-value).it

step_same : (a b : Step) → step_eq a b ≡ same_step (step_of a) (step_of b)
step_same (own.Field m) (own.Field n) = refl
step_same (own.Field m) (own.Element n) = refl
step_same (own.Element m) (own.Field n) = refl
step_same (own.Element m) (own.Element n) = refl

way_same : (a b : List Step) → pointwise step_eq a b ≡ same_way (map step_of a) (map step_of b)
way_same [] [] = refl
way_same [] (y ∷ b) = refl
way_same (x ∷ a) [] = refl
way_same (x ∷ a) (y ∷ b) = ap₂ (λ p q. p && q) (step_same x y) (way_same a b)

pub key_same : (a b : LeafKey) → key_eq a b ≡ same_leaf (leaf_of_key a) (leaf_of_key b)
key_same a b = ap (λ q. eqb a.component b.component && q) (way_same a.way.items b.way.items)

-- The same leaf is an equal one.

and_true : (p q : Bool) → (p && q) ≡ true → (p ≡ true) × (q ≡ true)
and_true true q e = (refl, e)
and_true false q e = cc

pub step_equal : (a b : PathStep) → same_step a b ≡ true → a ≡ b
step_equal (step.Field m) (step.Field n) e = ap step.Field (eqb-true m n e)
step_equal (step.Field m) (step.Element n) e = cc
step_equal (step.Element m) (step.Field n) e = cc
step_equal (step.Element m) (step.Element n) e = ap step.Element (eqb-true m n e)

pub way_equal : (a b : List PathStep) → same_way a b ≡ true → a ≡ b
way_equal [] [] e = refl
way_equal [] (y ∷ b) e = cc
way_equal (x ∷ a) [] e = cc
way_equal (x ∷ a) (y ∷ b) e =
    let both = and_true (same_step x y) (same_way a b) e in
    ap₂ (λ s w. s ∷ w) (step_equal x y both.0) (way_equal a b both.1)

pub leaf_equal : (a b : Leaf) → same_leaf a b ≡ true → a ≡ b
leaf_equal a b e =
    let both = and_true (eqb a.component b.component) (same_way a.way b.way) e in
    ap₂ (λ c w. record { component = c; way = w }) (eqb-true a.component b.component both.0) (way_equal a.way b.way both.1)

-- Looking up a key is asking for its leaf.

flipped : (keys : List LeafKey) (key : LeafKey) → list_any (key_eq key) keys ≡ is_among keys (leaf_of_key key)
flipped [] key = refl
flipped (k ∷ keys) key = ap₂ (λ p q. p || q) (key_same key k ∙ turned (leaf_of_key key) (leaf_of_key k)) (flipped keys key)
  where
    turned : (a b : Leaf) → same_leaf a b ≡ same_leaf b a
    turned a b = by (same_leaf a b) (same_leaf b a) refl refl
      where
        by : (x y : Bool) → same_leaf a b ≡ x → same_leaf b a ≡ y → x ≡ y
        by true true e f = refl
        by true false e f = sym (ap₂ same_leaf (sym (leaf_equal a b e)) (leaf_equal a b e) ∙ e) ∙ f
        by false true e f = sym e ∙ ap₂ same_leaf (sym (leaf_equal b a f)) (leaf_equal b a f) ∙ f
        by false false e f = refl

pub asked : (keys : List LeafKey) (key : LeafKey) → list_any (key_eq key) keys ≡ is_among keys (leaf_of_key key)
asked = flipped

-- One more key.

known : (b c : Bool) → (c ≡ true → b ≡ true) → b ≡ (b || c)
known true c h = refl
known false true h = h refl
known false false h = refl

right_false : (b : Bool) → (b || false) ≡ b
right_false true = refl
right_false false = refl

pub one_more : (keys : List LeafKey) (key : LeafKey) (leaf : Leaf) → is_among (insert_key key_eq keys key) leaf ≡ (is_among keys leaf || same_leaf (leaf_of_key key) leaf)
one_more keys key leaf = by (list_any (key_eq key) keys) refl
  where
    there' : list_any (key_eq key) keys ≡ true → same_leaf (leaf_of_key key) leaf ≡ true → is_among keys leaf ≡ true
    there' e same = ap (is_among keys) (sym (leaf_equal (leaf_of_key key) leaf same)) ∙ (sym (asked keys key) ∙ e)

    by : (b : Bool) → list_any (key_eq key) keys ≡ b → is_among (if b then keys else keys ++ key ∷ []) leaf ≡ (is_among keys leaf || same_leaf (leaf_of_key key) leaf)
    by true e = known (is_among keys leaf) (same_leaf (leaf_of_key key) leaf) (there' e)
    by false e = list_any-append (λ k. same_leaf (leaf_of_key k) leaf) keys (key ∷ []) ∙ ap (λ q. is_among keys leaf || q) (right_false (same_leaf (leaf_of_key key) leaf))

or_assoc : (a b c : Bool) → ((a || b) || c) ≡ (a || (b || c))
or_assoc true b c = refl
or_assoc false b c = refl

pub all_more : (keys others : List LeafKey) (leaf : Leaf) → is_among (insert_all key_eq keys others) leaf ≡ (is_among keys leaf || is_among others leaf)
all_more keys [] leaf = sym (right_false (is_among keys leaf))
all_more keys (k ∷ others) leaf =
    all_more (insert_key key_eq keys k) others leaf ∙ ap (λ q. q || is_among others leaf) (one_more keys k leaf)
    ∙ or_assoc (is_among keys leaf) (same_leaf (leaf_of_key k) leaf) (is_among others leaf)

-- Those that another set has.

pub both_have : (keys others : List LeafKey) (leaf : Leaf) → is_among (filter (λ k. list_any (key_eq k) others) keys) leaf ≡ (is_among keys leaf && is_among others leaf)
both_have [] others leaf = refl
both_have (k ∷ keys) others leaf = by (both_have keys others leaf) (list_any (key_eq k) others) refl (same_leaf (leaf_of_key k) leaf) refl
  where
    rest : List LeafKey
    rest = filter (λ x. list_any (key_eq x) others) keys

    has : same_leaf (leaf_of_key k) leaf ≡ true → is_among others leaf ≡ list_any (key_eq k) others
    has e = ap (is_among others) (sym (leaf_equal (leaf_of_key k) leaf e)) ∙ sym (asked others k)

    none : (a b : Bool) → b ≡ false → (a && b) ≡ b
    none true b h = refl
    none false b h = sym h

    by : is_among rest leaf ≡ (is_among keys leaf && is_among others leaf)
        → (b : Bool) → list_any (key_eq k) others ≡ b → (c : Bool) → same_leaf (leaf_of_key k) leaf ≡ c
        → is_among (if b then k ∷ rest else rest) leaf ≡ ((same_leaf (leaf_of_key k) leaf || is_among keys leaf) && is_among others leaf)
    by h true e true f =
        ap (λ q. q || is_among rest leaf) f ∙ sym (has f ∙ e) ∙ ap (λ q. (q || is_among keys leaf) && is_among others leaf) (sym f)
    by h true e false f = ap (λ q. q || is_among rest leaf) f ∙ h ∙ ap (λ q. (q || is_among keys leaf) && is_among others leaf) (sym f)
    by h false e true f = h ∙ none (is_among keys leaf) (is_among others leaf) (has f ∙ e) ∙ ap (λ q. (q || is_among keys leaf) && is_among others leaf) (sym f)
    by h false e false f = h ∙ ap (λ q. (q || is_among keys leaf) && is_among others leaf) (sym f)
