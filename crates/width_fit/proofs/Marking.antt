-- Marks of variables.
use Rattle.std.proofs.Common.{◌≡◌, ℕ, zero, suc, ◌+◌, ◌<◌, nat_eq, Bool, true, false, ◌||◌, List, [], ◌∷◌, ◌++◌, length, take, get_or, refl, sym, ap, ap₂, ◌∙◌, arith}
use Rattle.std.specs.Prelude.{slice_set}
use Rattle.std.specs.List.{list_any}
use Rattle.std.proofs.lemmas.Grind.{common_steps}
use Rattle.std.proofs.lemmas.List.{take_more}
use Rattle.width_rules.specs.declared.rule.Rule.{Rule}
use Rattle.width_fit.specs.Marks.{Marks}

pub push_false : (marks : List Bool) (x : ℕ) → get_or (marks ++ false ∷ []) x false ≡ get_or marks x false
push_false [] zero = refl
push_false [] (suc x) = refl
push_false (m ∷ marks) zero = refl
push_false (m ∷ marks) (suc x) = push_false marks x

pub set_true : (marks : List Bool) (at x : ℕ) → at < length marks → get_or (slice_set marks at true) x false ≡ (nat_eq at x || get_or marks x false)
set_true [] at x lt = absurd (omega (arith, lt))
set_true (m ∷ marks) zero zero lt = refl
set_true (m ∷ marks) zero (suc x) lt = grind (arith, common_steps)
set_true (m ∷ marks) (suc at) zero lt = grind (arith, common_steps)
set_true (m ∷ marks) (suc at) (suc x) lt = let h = set_true marks at x (omega (arith, lt)) in let same : nat_eq (suc at) (suc x) ≡ nat_eq at x = grind (arith, common_steps) in h ∙ ap (λ b. b || get_or marks x false) (sym same)

any-append : {A : Type 0} (p : A → Bool) (xs ys : List A) → list_any p (xs ++ ys) ≡ (list_any p xs || list_any p ys)
any-append p [] ys = refl
any-append p (x ∷ xs) ys = by (p x) (any-append p xs ys)
  where
    by : (b : Bool) → list_any p (xs ++ ys) ≡ (list_any p xs || list_any p ys) → (b || list_any p (xs ++ ys)) ≡ ((b || list_any p xs) || list_any p ys)
    by true h = refl
    by false h = h

turned : (a b : Bool) → (a || b) ≡ (b || (a || false))
turned true true = refl
turned true false = refl
turned false true = refl
turned false false = refl

pub marks_more : (rules : List Rule) (i : ℕ) (r : Rule) (old new : List Bool) (at : ℕ) → i < length rules → r ≡ get_or rules i r → Marks (take i rules) old → at ≡ r.target
    → ((x : ℕ) → get_or new x false ≡ (nat_eq at x || get_or old x false)) → Marks (take (i + 1) rules) new
marks_more rules i r old new at lt is h same g =
    let all : take (i + 1) rules ≡ take i rules ++ r ∷ [] = take_more rules i r lt ∙ ap (λ y. take i rules ++ y ∷ []) (sym is) in
    record {
      mark = λ x.
          let test = λ (rule : Rule). nat_eq rule.target x in
          g x ∙ ap₂ (λ n b. nat_eq n x || b) same (h.mark x) ∙ turned (nat_eq r.target x) (list_any test (take i rules))
          ∙ sym (ap (list_any test) all ∙ any-append test (take i rules) (r ∷ []));
    }
