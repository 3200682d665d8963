-- The one of a list that has a number.
use Rattle.std.proofs.Common.{◌≡◌, ◌≢◌, ℕ, zero, suc, ◌+◌, ◌<◌, ◌==◌, Bool, true, false, List, [], ◌∷◌, ◌++◌, length, slice_get, Option, Some, if◌then◌else◌, refl, sym, ap, ap₂, ◌∙◌, subst, append_assoc, eqb→eq, eq-eqb, arith}
use Rattle.std.proofs.lemmas.Option.{none-some, same_Some}
use Rattle.fir_tree.specs.declared.expr.Expr.{Expr}

-- of a list that is numbered from i on, the one with number k
abbrev pub picked : ℕ → ℕ → List Expr → List (Option Expr)
picked k i [] = []
picked k i (c ∷ cs) = (if i == k then Some c ∷ [] else []) ++ picked k (i + 1) cs

pub picked_append : (k i : ℕ) (cs ds : List Expr) → picked k i (cs ++ ds) ≡ picked k i cs ++ picked k (i + length cs) ds
picked_append k i [] ds = let same : i ≡ i + 0 = omega arith in ap (λ j. picked k j ds) same
picked_append k i (c ∷ cs) ds =
    let same : i + 1 + length cs ≡ i + length (c ∷ cs) = omega arith in
    ap (λ xs. (if i == k then Some c ∷ [] else []) ++ xs) (picked_append k (i + 1) cs ds ∙ ap (λ j. picked k (i + 1) cs ++ picked k j ds) same)
    ∙ sym (append_assoc (if i == k then Some c ∷ [] else []) (picked k (i + 1) cs) (picked k (i + length (c ∷ cs)) ds))

pub differs : (i k : ℕ) → i ≢ k → (i == k) ≡ false
differs i k ne = by (i == k) refl
  where
    by : (b : Bool) → (i == k) ≡ b → b ≡ false
    by true e = absurd (ne (eqb→eq i k (rw e tt)))
    by false e = refl

past : (k i : ℕ) (cs : List Expr) → k < i → picked k i cs ≡ []
past k i [] less = refl
past k i (c ∷ cs) less = ap (λ b. (if b then Some c ∷ [] else []) ++ picked k (i + 1) cs) (differs i k (λ e. let no : k < k = subst (λ j. k < j) e less in omega (arith, no))) ∙ past k (i + 1) cs (omega (arith, less))

pub picked_one : (k i j : ℕ) (cs : List Expr) (c : Expr) → i + j ≡ k → slice_get cs j ≡ Some c → picked k i cs ≡ Some c ∷ []
picked_one k i j [] c sum at = absurd (none-some c at)
picked_one k i zero (d ∷ cs) c sum at =
    let here : i ≡ k = omega (arith, sum) in
    ap (λ b. (if b then Some d ∷ [] else []) ++ picked k (i + 1) cs) (eq-eqb i k here) ∙ ap₂ (λ (x : Expr) (xs : List (Option Expr)). Some x ∷ xs) (same_Some d c at) (past k (i + 1) cs (omega (arith, here)))
picked_one k i (suc j) (d ∷ cs) c sum at =
    ap (λ b. (if b then Some d ∷ [] else []) ++ picked k (i + 1) cs) (differs i k (λ e. let no : i + suc j ≡ i = sum ∙ sym e in omega (arith, no))) ∙ picked_one k (i + 1) j cs c (omega (arith, sum)) at
