-- How many sinks need a leaf, sink by sink.
use Rattle.std.proofs.Common.{◌≡◌, ◌≢◌, ℕ, zero, suc, ◌+◌, ◌<◌, List, [], ◌∷◌, ◌++◌, length, take, slice_index, slice_set, refl, sym, subst, ap, ◌∙◌, arith, ◌⊎◌, ⊎_elim, inl, inr}
use Rattle.std.specs.List.{Contains}
use Rattle.std.proofs.lemmas.Bool.{cases_eq}
use Rattle.std.proofs.lemmas.List.{length-set}
use Rattle.std.proofs.lemmas.List.Elements.{Contains-append_left, Contains-push, Contains-push_cases}
use Rattle.cone_cutter.specs.Cuts.{Counts, Lists}
use Rattle.cone_cutter.specs.Walks.{IsOnce}
use Rattle.cone_cutter.proofs.Lists.{set_here, set_there, none_in, cons_cases, stands, pairs_first, pairs_rest, counts_push, counts_same, counts_none}
use Rattle.cut_refine.specs.Standing.{NeedsIt, AreCounts, Raises}
use Rattle.cut_refine.proofs.Sets.{in_list}

pub fresh_at : (s : List ℕ) (i : ℕ) → IsOnce s → i < length s → Contains (take i s) (slice_index s i) → ⊥
fresh_at [] i once lt c = omega (arith, lt)
fresh_at (y ∷ ys) zero once lt c = none_in y c
fresh_at (y ∷ ys) (suc i) once lt c = ⊎_elim
    (λ e. pairs_first (λ a b. a ≢ b) y ys once (slice_index ys i) (stands ys (slice_index ys i) i (omega (arith, lt)) refl) e)
    (λ r. fresh_at ys i (pairs_rest (λ a b. a ≢ b) y ys once) (omega (arith, lt)) r)
    (cons_cases y (take i ys) (slice_index ys i) c)

pub raises_none : (old : List ℕ) → Raises [] old old
raises_none old = record { long = refl; got = λ x c. absurd (none_in x c); others = λ x n. refl }

pub raises_more : (cone old new : List ℕ) (x : ℕ) → Raises cone old new → x < length new → (Contains cone x → ⊥) → Raises (cone ++ x ∷ []) old (slice_set new x (slice_index new x + 1))
raises_more cone old new x h lt out = record {
  long = length-set new x (slice_index new x + 1) ∙ h.long;
  got = λ y c. ⊎_elim
      (λ e. set_here new x (slice_index new x + 1) y lt e ∙ (ap (λ n. n + 1) (h.others x out) ∙ ap (λ z. slice_index old z + 1) (sym e)))
      (λ n. set_there new x (slice_index new x + 1) y n ∙ h.got y (⊎_elim (λ o. o) (λ e. absurd (n (sym e))) (Contains-push_cases cone x y c)))
      (cases_eq y x);
  others = λ y n.
      set_there new x (slice_index new x + 1) y (λ e. n (subst (Contains (cone ++ x ∷ [])) (sym e) (Contains-push cone x)))
      ∙ h.others y (λ c. n (Contains-append_left cone (x ∷ []) y c));
}

pub counts_begin : (cone : ℕ → ℕ → Type 0) (leaves : ℕ) (counts : List ℕ) → length counts ≡ leaves → ((x : ℕ) → slice_index counts x ≡ 0) → AreCounts cone leaves [] counts
counts_begin cone leaves counts long zeros = record {
  long = long;
  each = λ x lx. subst (Counts (NeedsIt cone [] x)) (sym (zeros x)) (counts_none (NeedsIt cone [] x) (λ k n. none_in k n.0));
}

pub counts_more : (cone : ℕ → ℕ → Type 0) (leaves : ℕ) (among old new found : List ℕ) (k : ℕ) → AreCounts cone leaves among old → Lists (cone k) found → Raises found old new → (Contains among k → ⊥)
    → AreCounts cone leaves (among ++ k ∷ []) new
counts_more cone leaves among old new found k h listed raises absent = record { long = raises.long ∙ h.long; each = each }
  where
    more : (x y : ℕ) → NeedsIt cone among x y → NeedsIt cone (among ++ k ∷ []) x y
    more x y n = (Contains-append_left among (k ∷ []) y n.0, n.1)

    new_one : (x y : ℕ) → Contains found x → k ≡ y → NeedsIt cone (among ++ k ∷ []) x y
    new_one x y c e = (subst (Contains (among ++ k ∷ [])) e (Contains-push among k), subst (λ z. cone z x) e (listed.only x c))

    back : (x y : ℕ) → NeedsIt cone (among ++ k ∷ []) x y → NeedsIt cone among x y ⊎ (k ≡ y)
    back x y n = ⊎_elim (λ o. inl (o, n.1)) (λ e. inr e) (Contains-push_cases among k y n.0)

    each : (x : ℕ) → x < leaves → Counts (NeedsIt cone (among ++ k ∷ []) x) (slice_index new x)
    each x lx = ⊎_elim
        (λ c. subst (Counts (NeedsIt cone (among ++ k ∷ []) x)) (sym (raises.got x c))
        (counts_same (λ y. NeedsIt cone among x y ⊎ (k ≡ y)) (NeedsIt cone (among ++ k ∷ []) x) (slice_index old x + 1) (λ y q. ⊎_elim (λ o. more x y o) (λ e. new_one x y c e) q) (back x)
        (counts_push (NeedsIt cone among x) (slice_index old x) k (h.each x lx) (λ n. absent n.0))))
        (λ out. subst (Counts (NeedsIt cone (among ++ k ∷ []) x)) (sym (raises.others x out))
        (counts_same (NeedsIt cone among x) (NeedsIt cone (among ++ k ∷ []) x) (slice_index old x) (more x)
        (λ y n. ⊎_elim (λ o. o) (λ e. absurd (out (listed.all x (subst (λ z. cone z x) (sym e) n.1)))) (back x y n))
        (h.each x lx)))
        (in_list found x)
