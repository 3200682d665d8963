-- Two graphs of two vertices.
use Rattle.std.proofs.Common.{◌≡◌, ◌≢◌, ℕ, zero, suc, ◌<◌, [], ◌∷◌, length, slice_index, Some, refl, sym, subst, ap, ◌∙◌, arith}
use Rattle.std.specs.declared.alloc.Global.{Global}
use Rattle.std.specs.declared.vec.Vec.{Vec}
use Rattle.comb_order.specs.Graph.{Reads, Through, itself, others, OnLoop, IsFirstOnLoop, IsOrder}

of_some : (a b : Vec ℕ Global) → Some a ≡ Some b → a ≡ b
of_some a b e = cc

-- vertex 0 reads only this one
module _ (one other : Vec ℕ Global) (read : ℕ) (is : one.items ≡ read ∷ []) where
  reads_first : Reads (one ∷ other ∷ []) 0 read
  reads_first = record { row = one; there = refl; at = 0; inside = omega (arith, ap length is); is = ap (λ l. slice_index l 0) is }

  only_first : (b : ℕ) → Reads (one ∷ other ∷ []) 0 b → read ≡ b
  only_first b r =
      let items : r.row.items ≡ read ∷ [] = ap (λ v. v.items) (sym (of_some one r.row r.there)) ∙ is in
      let long = ap length items in
      let at : r.at ≡ 0 = omega (arith, r.inside) in
      sym (ap (λ l. slice_index l 0) items) ∙ sym (ap (λ k. slice_index r.row.items k) at) ∙ r.is

-- vertex 0 reads vertex 1, which reads nothing: 1, 0 is an order
module _ (one other : Vec ℕ Global) (is : one.items ≡ 1 ∷ []) (none : other.items ≡ []) where
  reads_nothing : (b : ℕ) → Reads (one ∷ other ∷ []) 1 b → ⊥
  reads_nothing b r =
      let items : r.row.items ≡ [] = ap (λ v. v.items) (sym (of_some other r.row r.there)) ∙ none in
      omega (arith, ap length items, r.inside)

  pub an_order : IsOrder (one ∷ other ∷ []) (1 ∷ 0 ∷ [])
  an_order = record {
    in_order = record { within = within; once = once; after = after };
    all = all;
  }
    where
      within : (k : ℕ) → k < 2 → slice_index (1 ∷ 0 ∷ []) k < 2
      within zero lt = omega arith
      within (suc zero) lt = omega arith
      within (suc (suc k)) lt = absurd (omega arith)

      once : (j k : ℕ) → j < k → k < 2 → slice_index (1 ∷ 0 ∷ []) j ≢ slice_index (1 ∷ 0 ∷ []) k
      once zero zero less lt e = omega arith
      once zero (suc zero) less lt e = omega arith
      once (suc j) zero less lt e = omega arith
      once (suc j) (suc zero) less lt e = omega arith
      once j (suc (suc k)) less lt e = omega arith

      after : (k w : ℕ) → k < 2 → Reads (one ∷ other ∷ []) (slice_index (1 ∷ 0 ∷ []) k) w → (j : ℕ) × (j < k) × (slice_index (1 ∷ 0 ∷ []) j ≡ w)
      after zero w lt r = absurd (reads_nothing w r)
      after (suc zero) w lt r = (0, omega arith, only_first one other 1 is w r)
      after (suc (suc k)) w lt r = absurd (omega arith)

      all : (v : ℕ) → v < 2 → (k : ℕ) × (k < 2) × (slice_index (1 ∷ 0 ∷ []) k ≡ v)
      all zero lt = (1, omega arith, refl)
      all (suc zero) lt = (0, omega arith, refl)
      all (suc (suc v)) lt = absurd (omega arith)

-- vertex 0 reads vertex 1, which reads itself: 1 is the first on a loop, though 0 leads to it
module _ (one other : Vec ℕ Global) (is : one.items ≡ 1 ∷ []) (own : other.items ≡ 1 ∷ []) where
  reads_own : Reads (one ∷ other ∷ []) 1 1
  reads_own = record { row = other; there = refl; at = 0; inside = omega (arith, ap length own); is = ap (λ l. slice_index l 0) own }

  only_own : (b : ℕ) → Reads (one ∷ other ∷ []) 1 b → 1 ≡ b
  only_own b r =
      let items : r.row.items ≡ 1 ∷ [] = ap (λ v. v.items) (sym (of_some other r.row r.there)) ∙ own in
      let long = ap length items in
      let at : r.at ≡ 0 = omega (arith, r.inside) in
      sym (ap (λ l. slice_index l 0) items) ∙ sym (ap (λ k. slice_index r.row.items k) at) ∙ r.is

  stays : (a b : ℕ) → a ≡ 1 → Through (one ∷ other ∷ []) a b → 1 ≡ b
  stays a b e (itself r) = only_own b (subst (λ x. Reads (one ∷ other ∷ []) x b) e r)
  stays a b e (others {b = c} r t) = stays c b (sym (only_own c (subst (λ x. Reads (one ∷ other ∷ []) x c) e r))) t

  leads : (b : ℕ) → Through (one ∷ other ∷ []) 0 b → 1 ≡ b
  leads b (itself r) = only_first one other 1 is b r
  leads b (others {b = c} r t) = stays c b (sym (only_first one other 1 is c r)) t

  pub a_first : IsFirstOnLoop (one ∷ other ∷ []) 1
  a_first = record { here = itself reads_own; first = first }
    where
      first : (y : ℕ) → y < 1 → OnLoop (one ∷ other ∷ []) y → ⊥
      first zero lt loop = let e = leads 0 loop in omega (arith, e)
      first (suc y) lt loop = omega arith
