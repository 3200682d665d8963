-- A leaf stands before a place in the text just where its declaration does.
use Rattle.std.proofs.Common.{◌≡◌, ℕ, zero, suc, ◌+◌, ◌<◌, ◌≤◌, Bool, true, false, List, [], ◌∷◌, Some, slice_get, refl, sym, ◌∙◌, arith}
use Rattle.std.specs.Prelude.{nat_lt}
use Rattle.std.proofs.lemmas.Bool.{ltb-true, ltb-false}
use Rattle.fir_names.proofs.Graphs.{some_same}
use Rattle.circuit_laws.specs.Offsets.{offset}
use Rattle.circuit_laws.proofs.Opening.{below_true, not_below}

before : (cs : List ℕ) (k n c j : ℕ) → slice_get cs k ≡ Some c → j < c → k < n → offset k cs + j < offset n cs
before [] k n c j e lt le = cc
before (x ∷ cs) k zero c j e lt le = absurd (omega (arith, le))
before (x ∷ cs) zero (suc n) c j e lt le = omega (arith, lt, some_same e)
before (x ∷ cs) (suc k) (suc n) c j e lt le = omega (arith, before cs k n c j e lt (omega (arith, le)))

behind : (cs : List ℕ) (k n : ℕ) → n ≤ k → offset n cs ≤ offset k cs
behind cs k zero le = omega arith
behind [] zero (suc n) le = omega (arith, le)
behind [] (suc k) (suc n) le = omega arith
behind (x ∷ cs) zero (suc n) le = absurd (omega (arith, le))
behind (x ∷ cs) (suc k) (suc n) le = omega (arith, behind cs k n (omega (arith, le)))

pub same_order : (cs : List ℕ) (k n c j : ℕ) → slice_get cs k ≡ Some c → j < c → nat_lt (offset k cs + j) (offset n cs) ≡ nat_lt k n
same_order cs k n c j e lt = by (nat_lt k n) refl where
  by : (b : Bool) → nat_lt k n ≡ b → nat_lt (offset k cs + j) (offset n cs) ≡ nat_lt k n
  by true q = below_true (offset k cs + j) (offset n cs) (before cs k n c j e lt (ltb-true k n q)) ∙ sym q
  by false q = not_below (offset k cs + j) (offset n cs) (omega (arith, behind cs k n (omega (arith, ltb-false k n q)))) ∙ sym q
