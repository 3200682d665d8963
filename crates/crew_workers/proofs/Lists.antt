-- Lists that a loop changes item by item.
use Rattle.std.proofs.Common.{◌≡◌, ◌≢◌, ℕ, zero, suc, ◌+◌, ◌<◌, ◌≤◌, List, [], ◌∷◌, length, get_or, set, get_or-set_same, get_or-set_other, length-set, sym, refl, ap, ◌∙◌, subst, arith}
use native.Mathlib.Decide.{ℕ_discrete}
use mathlib.Core.Logic.{dite}
use Rattle.crew_workers.specs.Lists.{Through}

-- an item that is there
pub at_any : {A : Type 0} (l : List A) (i : ℕ) (d e : A) → i < length l → get_or l i d ≡ get_or l i e
at_any [] i d e h = absurd (omega arith)
at_any (x ∷ xs) zero d e h = refl
at_any (x ∷ xs) (suc i) d e h = at_any xs i d e (omega arith)

module _ {A : Type 0} (P : ℕ → A → A → Type 0) where
  -- the item i is changed next
  pub through_next : (old ws : List A) (i : ℕ) (w d : A) → Through P old ws i → i < length old → P i (get_or ws i d) w → Through P old (set ws i w) (i + 1)
  through_next old ws i w e t inside here = record {
    many = length-set ws i w ∙ t.many;
    done = λ k d below within. dite (ℕ_discrete k i)
        (λ same. subst (λ j. P j (get_or old j d) (get_or (set ws i w) j d)) (sym same) (subst (P i (get_or old i d)) (sym (get_or-set_same ws i w d (let m = t.many in omega (arith, inside, m))))
        (subst (λ v. P i v w) (t.left i e (omega arith) ∙ at_any old i e d inside) here)))
        (λ other. subst (P k (get_or old k d)) (sym (get_or-set_other ws i k w d other)) (t.done k d (omega (arith, below, other)) within));
    left = λ k d above. get_or-set_other ws i k w d (λ e. absurd (omega (arith, above, e))) ∙ t.left k d (omega (arith, above));
  }
