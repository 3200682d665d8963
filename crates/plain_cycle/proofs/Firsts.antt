-- Loops for the first item that meets a test, and what stands beside it.
use Rattle.std.proofs.Common.{◌≡◌, ℕ, zero, suc, ◌+◌, ◌<◌, ◌≤◌, min, ◌&&◌, Bool, true, false, List, [], ◌∷◌, map, length, drop, get_or, Some, None, if◌then◌else◌, refl, sym, ap, ap₂, ◌∙◌, arith}
use Rattle.fir_types.specs.declared.leaf.PathStep.{PathStep}
use Rattle.fir_types.specs.declared.leaf.PathStep.TheVariants as step
use Rattle.fir_types.specs.contracts.leaf.PathStepPartialEq.TheImpl as step_test
use Rattle.fir_meaning.specs.Drives.{same_step, same_way}
use Rattle.plain_cycle.proofs.Lists.{drop_there}
use Rattle.plain_cycle.specs.Firsts.{first_beside}
use lib.Pointwise.{pointwise}

module _ {A B : Type 0} (test : A → Bool) where
  pub first_here : (xs : List A) (ys : List B) (k : ℕ) (x : A) (y : B) → k < length xs → k < length ys → x ≡ get_or xs k x → y ≡ get_or ys k y → test x ≡ true
      → first_beside test xs ys ≡ first_beside test (drop k xs) (drop k ys) → first_beside test xs ys ≡ Some (x, y)
  first_here xs ys k x y h l is beside met before =
      before ∙ (ap₂ (first_beside test) (drop_there xs k x h is) (drop_there ys k y l beside) ∙ ap (λ b. if b then Some (x, y) else first_beside test (drop (k + 1) xs) (drop (k + 1) ys)) met)

  next_ones : (xs : List A) (ys : List B) (k : ℕ) (x : A) → k < length xs → k < length ys → x ≡ get_or xs k x → test x ≡ false
      → first_beside test (drop k xs) (drop k ys) ≡ first_beside test (drop (k + 1) xs) (drop (k + 1) ys)
  next_ones [] ys k x h l is met = absurd (omega (arith, h))
  next_ones (a ∷ xs) [] k x h l is met = absurd (omega (arith, l))
  next_ones (a ∷ xs) (b ∷ ys) zero x h l is met = ap (λ t. if t then Some (a, b) else first_beside test xs ys) (ap test (sym is) ∙ met)
  next_ones (a ∷ xs) (b ∷ ys) (suc k) x h l is met =
      let next : suc k + 1 ≡ suc (k + 1) = omega arith in
      next_ones xs ys k x (omega (arith, h)) (omega (arith, l)) is met ∙ sym (ap (λ n. first_beside test (drop n (a ∷ xs)) (drop n (b ∷ ys))) next)

  pub first_later : (xs : List A) (ys : List B) (k : ℕ) (x : A) → k < length xs → k < length ys → x ≡ get_or xs k x → test x ≡ false
      → first_beside test xs ys ≡ first_beside test (drop k xs) (drop k ys) → first_beside test xs ys ≡ first_beside test (drop (k + 1) xs) (drop (k + 1) ys)
  first_later xs ys k x h l is met before = before ∙ next_ones xs ys k x h l is met

  none_beside : (xs : List A) → first_beside {A = A} {B = B} test xs [] ≡ None
  none_beside [] = refl
  none_beside (x ∷ xs) = refl

  past_all : (xs : List A) (ys : List B) (k : ℕ) → min (length xs) (length ys) ≤ k → first_beside test (drop k xs) (drop k ys) ≡ None
  past_all [] ys zero h = refl
  past_all [] ys (suc k) h = refl
  past_all (x ∷ xs) [] zero h = refl
  past_all (x ∷ xs) [] (suc k) h = none_beside (drop k xs)
  past_all (x ∷ xs) (y ∷ ys) zero h = absurd (omega (arith, h))
  past_all (x ∷ xs) (y ∷ ys) (suc k) h = past_all xs ys k (omega (arith, h))

  pub first_none : (xs : List A) (ys : List B) (k : ℕ) → min (length xs) (length ys) ≤ k → first_beside test xs ys ≡ first_beside test (drop k xs) (drop k ys) → first_beside test xs ys ≡ None
  first_none xs ys k h before = before ∙ past_all xs ys k h

pub mapped_there : {A B : Type 0} (f : A → B) (xs : List A) (k : ℕ) (x : A) → k < length xs → x ≡ get_or xs k x → f x ≡ get_or (map f xs) k (f x)
mapped_there f [] k x h is = absurd (omega (arith, h))
mapped_there f (a ∷ xs) zero x h is = ap f is
mapped_there f (a ∷ xs) (suc k) x h is = mapped_there f xs k x (omega (arith, h)) is

-- the test for the same way

abbrev pub step_eq : PathStep → PathStep → Bool
step_eq = (step_test.eq-value).it

step_same : (a b : PathStep) → step_eq a b ≡ same_step a b
step_same (step.Field m) (step.Field n) = refl
step_same (step.Field m) (step.Element n) = refl
step_same (step.Element m) (step.Field n) = refl
step_same (step.Element m) (step.Element n) = refl

pub ways_same : (a b : List PathStep) → pointwise step_eq a b ≡ same_way a b
ways_same [] [] = refl
ways_same [] (y ∷ b) = refl
ways_same (x ∷ a) [] = refl
ways_same (x ∷ a) (y ∷ b) = ap₂ (λ p q. p && q) (step_same x y) (ways_same a b)
