-- The order of keys finds what their equality finds.
use Rattle.std.proofs.Common.{◌≡◌, ℕ, Bool, true, false, List, [], ◌∷◌, refl, sym, ap, ap₂, ◌∙◌, arith}
use Rattle.std.specs.Prelude.{Option, Some, cond, nat_eq, ◌&&◌}
use Rattle.std.specs.Map.{lookup}
use Rattle.std.specs.Ordering.{is_eq, nat_cmp, ordering_then}
use Rattle.std.specs.Cmp.{both_tied}
use Rattle.std.specs.Cmp.Lexicographic.{slice_cmp}
use Rattle.std.proofs.lemmas.Bool.Decides.{nat_tests}
use Rattle.part_fits.specs.declared.reference.Step.{Step}
use Rattle.part_fits.specs.declared.reference.Step.TheVariants as own
use Rattle.part_fits.specs.declared.reference.Reference.{Reference}
use Rattle.part_fits.specs.contracts.reference.StepOrd.TheImpl as step_order
use Rattle.part_fits.specs.contracts.reference.StepPartialEq.TheImpl as step_test
use Rattle.part_fits.specs.contracts.reference.ReferenceOrd.TheImpl as order
use Rattle.part_fits.specs.Seen.{same_reference, same_pair}
use lib.Pointwise.{pointwise}
use lib.Dec.{eqb}

numbers_tie : (x y : ℕ) → nat_eq x y ≡ is_eq (nat_cmp x y)
numbers_tie x y = grind (arith, nat_tests)

-- tests that agree find the same
alike : {K X : Type 0} (one other : K → Bool) → ((k : K) → one k ≡ other k) → (entries : List (K × X)) → lookup one entries ≡ lookup other entries
alike one other same [] = refl
alike one other same (e ∷ entries) = rw (same e.0, alike one other same entries)

steps_tie : (a b : Step) → step_test.eq-value.it a b ≡ is_eq (step_order.cmp-value.it a b)
steps_tie (own.Field m) (own.Field n) = numbers_tie m n
steps_tie (own.Field m) own.Element = refl
steps_tie own.Element (own.Field n) = refl
steps_tie own.Element own.Element = refl

ways_tie : (a b : List Step) → pointwise step_test.eq-value.it a b ≡ is_eq (slice_cmp step_order.cmp-value.it a b)
ways_tie [] [] = refl
ways_tie [] (y ∷ b) = refl
ways_tie (x ∷ a) [] = refl
ways_tie (x ∷ a) (y ∷ b) = both_tied (step_test.eq-value.it x y) (pointwise step_test.eq-value.it a b) (step_order.cmp-value.it x y) (slice_cmp step_order.cmp-value.it a b) (steps_tie x y) (ways_tie a b)

reference_alike : (key other : Reference) → is_eq (order.cmp-value.it key other) ≡ same_reference key other
reference_alike key other =
    sym (both_tied (eqb key.name other.name) (pointwise step_test.eq-value.it key.steps.items other.steps.items) (nat_cmp key.name other.name)
    (slice_cmp step_order.cmp-value.it key.steps.items other.steps.items) (numbers_tie key.name other.name) (ways_tie key.steps.items other.steps.items))

pair_alike : (key other : ℕ × ℕ) → is_eq (ordering_then (nat_cmp key.0 other.0) (nat_cmp key.1 other.1)) ≡ same_pair key other
pair_alike key other = sym (both_tied (nat_eq key.0 other.0) (nat_eq key.1 other.1) (nat_cmp key.0 other.0) (nat_cmp key.1 other.1) (numbers_tie key.0 other.0) (numbers_tie key.1 other.1))

-- what is found once one more is there
after : {K : Type 0} (order test : K → K → Bool) → ((key other : K) → order key other ≡ test key other) → (key : K) (number : ℕ) (old new : List (K × ℕ))
    → ((q : K) → lookup (order q) new ≡ cond (order key q) (Some number) (lookup (order q) old))
    → (q : K) → lookup (test q) new ≡ cond (test key q) (Some number) (lookup (test q) old)
after order test same key number old new is q =
    sym (alike (order q) (test q) (same q) new) ∙ is q ∙ ap (λ (o : Option ℕ). cond (order key q) (Some number) o) (alike (order q) (test q) (same q) old)
    ∙ ap (λ (b : Bool). cond b (Some number) (lookup (test q) old)) (same key q)

abbrev pub by_order : Reference → Reference → Bool
by_order key other = is_eq (order.cmp-value.it key other)

abbrev pub by_numbers : ℕ × ℕ → ℕ × ℕ → Bool
by_numbers key other = is_eq (ordering_then (nat_cmp key.0 other.0) (nat_cmp key.1 other.1))

pub references_found : (key : Reference) (entries : List (Reference × ℕ)) → lookup (by_order key) entries ≡ lookup (same_reference key) entries
references_found key entries = alike (by_order key) (same_reference key) (reference_alike key) entries

pub pairs_found : (key : ℕ × ℕ) (entries : List ((ℕ × ℕ) × ℕ)) → lookup (by_numbers key) entries ≡ lookup (same_pair key) entries
pairs_found key entries = alike (by_numbers key) (same_pair key) (pair_alike key) entries

pub references_after : (key : Reference) (number : ℕ) (old new : List (Reference × ℕ))
    → ((q : Reference) → lookup (by_order q) new ≡ cond (by_order key q) (Some number) (lookup (by_order q) old))
    → (q : Reference) → lookup (same_reference q) new ≡ cond (same_reference key q) (Some number) (lookup (same_reference q) old)
references_after = after by_order same_reference reference_alike

pub pairs_after : (key : ℕ × ℕ) (number : ℕ) (old new : List ((ℕ × ℕ) × ℕ))
    → ((q : ℕ × ℕ) → lookup (by_numbers q) new ≡ cond (by_numbers key q) (Some number) (lookup (by_numbers q) old))
    → (q : ℕ × ℕ) → lookup (same_pair q) new ≡ cond (same_pair key q) (Some number) (lookup (same_pair q) old)
pairs_after = after by_numbers same_pair pair_alike
