-- Lists of workers.
use Rattle.std.proofs.Common.{◌≡◌, ◌≢◌, ℕ, zero, suc, ◌+◌, ◌*◌, ◌<◌, List, [], ◌∷◌, ◌++◌, length, get_or, set, get_or-set_same, get_or-set_other, sym, ap, ◌∙◌, subst, ⊎_elim, arith}
use Rattle.register_table.specs.declared.plan.Plan.{Ghosts}
use Rattle.register_table.specs.declared.table.RegisterTable.{RegisterTable}
use Rattle.crew_workers.specs.declared.worker.Worker.{Worker}
use Rattle.crew_workers.specs.declared.worker.Duty.{Duty}
use Rattle.worker_crew.specs.Crew.{Answered, Task, Parts}
use Rattle.crew_workers.specs.Codes.{Recorded}
use Rattle.flat_code.specs.declared.code.Code.{Code}
use Rattle.phase_core.specs.declared.model.Script.{Script}
use Rattle.bit_words.specs.declared.value.Value.{Value}
use native.Mathlib.Decide.{ℕ_discrete}
use mathlib.Core.Logic.{dite}
use Rattle.crew_workers.specs.Standing.{At, AtStart, AtEnd}

module _ {A : Type 0} (P : A → Type 0) where
  pub each_push : (l : List A) (w : A) → ((k : ℕ) (d : A) → k < length l → P (get_or l k d)) → P w → (k : ℕ) (d : A) → k < length (l ++ w ∷ []) → P (get_or (l ++ w ∷ []) k d)
  each_push [] w all here zero d h = here
  each_push [] w all here (suc k) d h = absurd (omega arith)
  each_push (x ∷ xs) w all here zero d h = all zero x (omega arith)
  each_push (x ∷ xs) w all here (suc k) d h = each_push xs w (λ j e lt. all (suc j) e (omega arith)) here k d (omega arith)

module _ {N : Type 0} {p : Ghosts N} where
  pub answered_done : (table : RegisterTable N p) (duty : Duty) (w : Worker N p) → Answered table duty w → w.post.view.passed ≢ 0 → AtEnd table w
  answered_done table duty w a not = ⊎_elim (λ (x : AtStart table w). absurd (not (ap (λ v. v.passed) x.view_is))) (λ x. x) a.1

  -- one that has passed nothing stands at its start, since an epoch of no cycle ends where it starts
  pub answered_fresh : (table : RegisterTable N p) (duty : Duty) (w : Worker N p) → Answered table duty w → w.post.view.passed ≡ 0 → AtStart table w
  answered_fresh table duty w a zero_passed = ⊎_elim (λ x. x)
      (λ (x : AtEnd table w). let e : 2 * p.script.cycles ≡ 0 = sym (ap (λ v. v.passed) x.view_is) ∙ zero_passed in let none : p.script.cycles ≡ 0 = omega (arith, e) in
      subst (λ n. At table w 0 0 0 n) none (subst (λ n. At table w n n 0 p.script.cycles) e x)) a.1

-- the outputs of the code n are kept
pub parts_put : (s : Script) (t : Task) (parts : List (List (List Value))) (n : ℕ) (part : List (List Value)) → n < length parts → Parts s t parts (n + 1) → ((d : Code) → Recorded s (get_or t.codes n d) t.rows part)
    → length part ≡ s.cycles → Parts s t (set parts n part) n
parts_put s t parts n part room above here many = record {
  each = λ k d from below. dite (ℕ_discrete k n)
      (λ same. subst (λ j. Recorded s (get_or t.codes j d) t.rows (get_or (set parts n part) j [])) (sym same) (subst (Recorded s (get_or t.codes n d) t.rows) (sym (get_or-set_same parts n part [] room)) (here d)))
      (λ other. subst (Recorded s (get_or t.codes k d) t.rows) (sym (get_or-set_other parts n k part [] other)) (above.each k d (omega (arith, from, other)) below));
  many = λ k from below. dite (ℕ_discrete k n)
      (λ same. ap (λ j. length (get_or (set parts n part) j [])) same ∙ ap length (get_or-set_same parts n part [] room) ∙ many)
      (λ other. ap length (get_or-set_other parts n k part [] other) ∙ above.many k (omega (arith, from, other)) below);
}
