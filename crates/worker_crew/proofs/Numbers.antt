-- Workers counted by their numbers.
use Rattle.std.proofs.Common.{◌≡◌, ℕ, zero, suc, ◌+◌, ◌<◌, List, [], ◌∷◌, ◌++◌, length, get_or, Option, Some, None, IfSome, option_to_list, sum_by, refl, ap, ◌∙◌, arith}
use Rattle.std.proofs.lemmas.List.Sums.{sum_by-cons, sum_by_push}
use Rattle.register_table.specs.declared.plan.Plan.{Ghosts}
use Rattle.crew_workers.specs.declared.worker.Worker.{Worker}
use Rattle.crew_workers.specs.declared.worker.Duty.{Duty}
use Rattle.crew_workers.specs.Standing.{SameDuties}
use Rattle.worker_crew.specs.Numbers.{same, held}

pub none_in : {A : Type 0} (f : A → ℕ) (xs : List A) → length xs ≡ 0 → sum_by f xs ≡ 0
none_in f [] e = refl
none_in f (x ∷ xs) e = absurd (omega (arith, e))

-- a list that its last item was taken from
pub popped : {A : Type 0} (f : ℕ → A → ℕ) (old new : List A) (o : Option A) → old ≡ new ++ option_to_list o → IfSome o (λ x. (k : ℕ) → sum_by (f k) old ≡ sum_by (f k) new + f k x)
popped f old new None e = tt
popped f old new (Some x) e = λ k. ap (λ l. sum_by (f k) l) e ∙ sum_by_push (f k) new x

-- lists whose items count the same
pub sum_by-each : {A : Type 0} (f : A → ℕ) (xs ys : List A) → length xs ≡ length ys → ((k : ℕ) (d : A) → k < length ys → f (get_or xs k d) ≡ f (get_or ys k d)) → sum_by f xs ≡ sum_by f ys
sum_by-each f [] [] e h = refl
sum_by-each f [] (y ∷ ys) e h = absurd (omega (arith, e))
sum_by-each f (x ∷ xs) [] e h = absurd (omega (arith, e))
sum_by-each f (x ∷ xs) (y ∷ ys) e h =
    let here : f x ≡ f y = h zero x (omega arith) in
    let rest : sum_by f xs ≡ sum_by f ys = sum_by-each f xs ys (omega (arith, e)) (λ k d lt. h (suc k) d (omega (arith, lt))) in
    let a = sum_by-cons f x xs in let b = sum_by-cons f y ys in omega (arith, here, rest, a, b)

module _ {N : Type 0} {p : Ghosts N} where
  -- workers with the same duties have the same numbers
  pub held_same : (k : ℕ) (old new : List (Worker N p)) → SameDuties old new → held k new ≡ held k old
  held_same k old new d = sum_by-each (λ w. same k w.desk.duty.number) new old d.many (λ i w lt. ap (λ (x : Duty). same k x.number) (d.duty i w lt))
