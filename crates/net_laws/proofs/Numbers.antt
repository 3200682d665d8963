-- The numbers of leaves in flat order.
use Rattle.std.proofs.Common.{◌≡◌, ℕ, zero, suc, ◌==◌, ◌<◌, ◌&&◌, Bool, true, false, List, [], ◌∷◌, length, Some, None, refl, sym, ap, ap₂, ◌∙◌, arith, true≢false}
use Rattle.std.specs.List.{slice_get, position, position_or_len}
use Rattle.std.proofs.lemmas.Grind.{common_steps}
use Rattle.bit_words.specs.Values.{integer_of}
use Rattle.fir_types.specs.declared.leaf.PathStep.{PathStep}
use Rattle.fir_types.specs.declared.leaf.PathStep.TheVariants as step
use Rattle.fir_meaning.specs.Components.{Design, FlatLeaf}
use Rattle.fir_meaning.specs.Drives.{same_step, same_way}
use Rattle.ground_net.specs.Grounds.{Instant}
use Rattle.ground_net.specs.Cycles.{integer_at}
use Rattle.net_of_circuit.specs.FlatOrder.{Placed, Standing, all_leaves, flat_of, same_path, same_flat, number_in, ListsLeaves}
use Rattle.net_of_circuit.specs.NetOf.{valuation_of}

pub some_same : {A : Type 0} {x y : A} → Some x ≡ Some y → x ≡ y
some_same e = cc

pub none_some : {A B : Type 0} {x : A} → None ≡ Some x → B
none_some e = absurd cc

both_true : (a b : Bool) → (a && b) ≡ true → (a ≡ true) × (b ≡ true)
both_true true b e = (refl, e)
both_true false b e = absurd (true≢false (sym e))

same_number : (a b : ℕ) → (a == b) ≡ true → a ≡ b
same_number a b e = grind (arith, common_steps)

number_itself : (a : ℕ) → (a == a) ≡ true
number_itself a = grind (arith, common_steps)

step_is : (a b : PathStep) → same_step a b ≡ true → a ≡ b
step_is (step.Field m) (step.Field n) e = ap step.Field (same_number m n e)
step_is (step.Element m) (step.Element n) e = ap step.Element (same_number m n e)
step_is (step.Field m) (step.Element n) e = absurd (true≢false (sym e))
step_is (step.Element m) (step.Field n) e = absurd (true≢false (sym e))

step_itself : (a : PathStep) → same_step a a ≡ true
step_itself (step.Field m) = number_itself m
step_itself (step.Element m) = number_itself m

pub way_is : (a b : List PathStep) → same_way a b ≡ true → a ≡ b
way_is [] [] e = refl
way_is [] (x ∷ b) e = absurd (true≢false (sym e))
way_is (x ∷ a) [] e = absurd (true≢false (sym e))
way_is (x ∷ a) (y ∷ b) e = let t = both_true _ _ e in ap₂ (λ u v. u ∷ v) (step_is x y t.0) (way_is a b t.1)

way_itself : (a : List PathStep) → same_way a a ≡ true
way_itself [] = refl
way_itself (x ∷ a) = ap₂ (λ u v. u && v) (step_itself x) (way_itself a)

path_is : (a b : List ℕ) → same_path a b ≡ true → a ≡ b
path_is [] [] e = refl
path_is [] (x ∷ b) e = absurd (true≢false (sym e))
path_is (x ∷ a) [] e = absurd (true≢false (sym e))
path_is (x ∷ a) (y ∷ b) e = let t = both_true _ _ e in ap₂ (λ u v. u ∷ v) (same_number x y t.0) (path_is a b t.1)

path_itself : (a : List ℕ) → same_path a a ≡ true
path_itself [] = refl
path_itself (x ∷ a) = ap₂ (λ u v. u && v) (number_itself x) (path_itself a)

abbrev flat_leaf : List ℕ → ℕ → List PathStep → FlatLeaf
flat_leaf path c way = record { path = path; component = c; way = way }

make_flat : (path other : List ℕ) (c d : ℕ) (way away : List PathStep) → path ≡ other → c ≡ d → way ≡ away → flat_leaf path c way ≡ flat_leaf other d away
make_flat path other c d way away p q r = grind (arith, common_steps, p, q, r)

pub flat_is : (a b : FlatLeaf) → same_flat a b ≡ true → a ≡ b
flat_is a b e =
    let t = both_true _ _ e in
    let u = both_true _ _ t.1 in
    make_flat a.path b.path a.component b.component a.way b.way (path_is a.path b.path t.0) (same_number a.component b.component u.0) (way_is a.way b.way u.1)

pub flat_itself : (a : FlatLeaf) → same_flat a a ≡ true
flat_itself a = ap₂ (λ u v. u && v) (path_itself a.path) (ap₂ (λ u v. u && v) (number_itself a.component) (way_itself a.way))

-- the first item that passes, where there is one alone
first_at : {A : Type 0} (p : A → Bool) (xs : List A) (x : ℕ) (y : A) → slice_get xs x ≡ Some y → p y ≡ true
    → ((z : ℕ) (w : A) → slice_get xs z ≡ Some w → p w ≡ true → z ≡ x) → position_or_len p xs ≡ x
first_at p [] x y e t u = none_some e
first_at p (a ∷ xs) zero y e t u =
    let here : p a ≡ true = ap p (some_same e) ∙ t in
    grind (arith, common_steps, here)
first_at {A} p (a ∷ xs) (suc x) y e t u = by_test (p a) refl (first_at p xs x y e t (λ z w f g. let s : suc z ≡ suc x = u (suc z) w f g in omega arith)) where
  by_test : (b : Bool) → p a ≡ b → position_or_len p xs ≡ x → position_or_len p (a ∷ xs) ≡ suc x
  by_test true q rest = let bad : 0 ≡ suc x = u 0 a refl q in absurd (omega arith)
  by_test false q rest = grind (arith, common_steps, q, rest)

pub below_length : {A : Type 0} (xs : List A) (x : ℕ) (y : A) → slice_get xs x ≡ Some y → x < length xs
below_length [] x y e = none_some e
below_length (a ∷ xs) zero y e = omega arith
below_length (a ∷ xs) (suc x) y e = let rest = below_length xs x y e in omega arith

pub position_at : {A : Type 0} (p : A → Bool) (xs : List A) (x : ℕ) (y : A) → slice_get xs x ≡ Some y → p y ≡ true
    → ((z : ℕ) (w : A) → slice_get xs z ≡ Some w → p w ≡ true → z ≡ x) → position p xs ≡ Some x
position_at p xs x y e t u =
    let first = first_at p xs x y e t u in
    let below = below_length xs x y e in
    grind (arith, common_steps, first, below)

module _ (design : Design) (placed : List Placed) (lists : ListsLeaves design placed) where
  -- The number of an entry is its place.
  pub number_is : (x : ℕ) (y : Standing) → slice_get (all_leaves placed) x ≡ Some y → number_in (all_leaves placed) (flat_of y) ≡ Some x
  number_is x y e = position_at (λ standing. same_flat (flat_of standing) (flat_of y)) (all_leaves placed) x y e (flat_itself (flat_of y))
      (λ z w f g. lists.once z x w y f e (flat_is (flat_of w) (flat_of y) g))

  -- What is seen of an entry is the value of its number.
  pub valuation_at : (instant : Instant) (x : ℕ) (y : Standing) → slice_get (all_leaves placed) x ≡ Some y
      → valuation_of (all_leaves placed) instant y.0.path y.0.c.declaration.name y.1.path ≡ integer_of (instant.leaf x)
  valuation_at instant x y e = ap (integer_at instant) (number_is x y e)
