-- Numbers that are kept of a list.
use Rattle.std.proofs.Common.{◌≡◌, ℕ, ◌<◌, List, [], ◌∷◌, ◌++◌, length, slice_index, refl, sym, subst, ◌∙◌, arith, ⊎_elim}
use Rattle.std.proofs.lemmas.List.{length_push}
use Rattle.comb_order.proofs.Steps.{push_old, push_new, push_cases}
use Rattle.comb_order.specs.Graphs.{IsOnce, StoodAt, Keeps}

pub keeps_none : (is : ℕ → Type 0) → Keeps is [] []
keeps_none is = record {
  only = λ k lt. absurd (omega arith);
  stood = λ k lt. absurd (omega arith);
  all = λ i lt a. absurd (omega arith);
  once = λ h j k less lt. absurd (omega arith);
}

once_less : (s : List ℕ) (x : ℕ) → IsOnce (s ++ x ∷ []) → IsOnce s
once_less s x h j k less lt e = h j k less (omega (arith, length_push s x)) (push_old s x j (omega arith) ∙ e ∙ sym (push_old s x k lt))

-- those that were kept stood there before
stood_more : (is : ℕ → Type 0) (s kept now : List ℕ) (x k : ℕ) → StoodAt is s kept k → slice_index now k ≡ slice_index kept k → ((m : ℕ) → m < k → slice_index now m ≡ slice_index kept m)
    → StoodAt is (s ++ x ∷ []) now k
stood_more is s kept now x k h same below = record {
  at = h.at;
  inside = omega (arith, length_push s x, h.inside);
  same = push_old s x h.at h.inside ∙ h.same ∙ sym same;
  before = λ j less a.
      let old = push_old s x j (omega (arith, h.inside)) in
      let m = h.before j less (subst is old a) in
      (m.0, m.1, below m.0 m.1 ∙ m.2 ∙ sym old);
}

-- a number that isn't kept
pub keeps_past : (is : ℕ → Type 0) (s kept : List ℕ) (x : ℕ) → Keeps is s kept → (is x → ⊥) → Keeps is (s ++ x ∷ []) kept
keeps_past is s kept x h never = record {
  only = h.only;
  stood = λ k lt. stood_more is s kept kept x k (h.stood k lt) refl (λ m less. refl);
  all = λ i lt a. ⊎_elim
      (λ old. let same = push_old s x i old in let k = h.all i old (subst is same a) in (k.0, k.1, k.2 ∙ sym same))
      (λ last. absurd (never (subst is (push_new s x i last) a))) (push_cases s x i lt);
  once = λ e. h.once (once_less s x e);
}

-- a number that is kept
pub keeps_more : (is : ℕ → Type 0) (s kept : List ℕ) (x : ℕ) → Keeps is s kept → is x → Keeps is (s ++ x ∷ []) (kept ++ x ∷ [])
keeps_more is s kept x h here = record {
  only = λ k lt. ⊎_elim (λ old. subst is (sym (push_old kept x k old)) (h.only k old)) (λ last. subst is (sym (push_new kept x k last)) here) (push_cases kept x k lt);
  stood = λ k lt. ⊎_elim
      (λ old. stood_more is s kept (kept ++ x ∷ []) x k (h.stood k old) (push_old kept x k old) (λ m less. push_old kept x m (omega arith)))
      (λ last. newest k last) (push_cases kept x k lt);
  all = λ i lt a. ⊎_elim
      (λ old. let same = push_old s x i old in let k = h.all i old (subst is same a) in (k.0, omega (arith, length_push kept x, k.1), push_old kept x k.0 k.1 ∙ k.2 ∙ sym same))
      (λ last. (length kept, omega (arith, length_push kept x), push_new kept x (length kept) refl ∙ sym (push_new s x i last))) (push_cases s x i lt);
  once = λ e j k less lt same. ⊎_elim
      (λ old. h.once (once_less s x e) j k less old (sym (push_old kept x j (omega arith)) ∙ same ∙ push_old kept x k old))
      (λ last. let stood = h.stood j (omega arith) in
      let is_last = sym (push_old kept x j (omega arith)) ∙ same ∙ push_new kept x k last in
      e stood.at (length s) stood.inside (omega (arith, length_push s x)) (push_old s x stood.at stood.inside ∙ stood.same ∙ is_last ∙ sym (push_new s x (length s) refl)))
      (push_cases kept x k lt);
}
  where
    newest : (k : ℕ) → length kept ≡ k → StoodAt is (s ++ x ∷ []) (kept ++ x ∷ []) k
    newest k last = record {
      at = length s;
      inside = omega (arith, length_push s x);
      same = push_new s x (length s) refl ∙ sym (push_new kept x k last);
      before = λ j less a.
          let old = push_old s x j less in
          let m = h.all j less (subst is old a) in
          (m.0, omega (arith, m.1), push_old kept x m.0 m.1 ∙ m.2 ∙ sym old);
    }
