-- Offsets and places: what stands further behind in a text has a later place.
use Rattle.std.proofs.Common.{◌≡◌, ℕ, zero, suc, ◌+◌, ◌-◌, ◌<◌, ◌≤◌, Bool, true, false, List, length, get_or, refl, ap, ◌∙◌, subst, arith, ◌⊎◌, inl, inr}
use Rattle.place_text.specs.declared.place.Place.{Place}
use Rattle.place_text.specs.Places.{place, is_feed}
use Rattle.place_text.proofs.Places.{place-feed, place-byte}
use Rattle.place_text.specs.Order.{IsNotLater, by_line, by_column, by_rank}
use Rattle.stimulus.proofs.Walking.{test_is}

-- a place stands before another one
abbrev IsBefore : Place → Place → Type 0
IsBefore p q = (p.line < q.line) ⊎ ((p.line ≡ q.line) × (p.column < q.column))

one_further : (text : List ℕ) (at : ℕ) → at < length text → IsBefore (place text at) (place text (at + 1))
one_further text at lt = by (is_feed (get_or text at 0)) refl
  where
    by : (v : Bool) → is_feed (get_or text at 0) ≡ v → IsBefore (place text at) (place text (at + 1))
    by true e = let next = place-feed text at lt (test_is (get_or text at 0) 10 e) in inl (let l = ap (λ (p : Place). p.line) next in omega (arith, l))
    by false e = let next = place-byte text at lt e in inr (let l = ap (λ (p : Place). p.line) next in omega (arith, l), let k = ap (λ (p : Place). p.column) next in omega (arith, k))

before_trans : (p q r : Place) → IsBefore p q → IsBefore q r → IsBefore p r
before_trans p q r (inl a) (inl b) = inl (omega (arith, a, b))
before_trans p q r (inl a) (inr b) = inl (omega (arith, a, b.0))
before_trans p q r (inr a) (inl b) = inl (omega (arith, a.0, b))
before_trans p q r (inr a) (inr b) = inr (a.0 ∙ b.0, omega (arith, a.1, b.1))

further : (text : List ℕ) (n at : ℕ) → at + suc n ≤ length text → IsBefore (place text at) (place text (at + suc n))
further text zero at le = subst (λ k. IsBefore (place text at) (place text k)) (omega arith) (one_further text at (omega (arith, le)))
further text (suc n) at le =
    subst (λ k. IsBefore (place text at) (place text k)) (omega arith)
    (before_trans (place text at) (place text (at + 1)) (place text (at + 1 + suc n)) (one_further text at (omega (arith, le))) (further text n (at + 1) (omega (arith, le))))

-- of two offsets the further one has the later place, and at one offset the rank decides
pub not_later : (text : List ℕ) (at rank other more : ℕ) → other ≤ length text → (at < other) ⊎ ((at ≡ other) × (rank ≤ more)) → IsNotLater (place text at) rank (place text other) more
not_later text at rank other more le (inl lt) = by (subst (λ k. IsBefore (place text at) (place text k)) (omega (arith, lt)) (further text (other - at - 1) at (omega (arith, lt, le))))
  where
    by : IsBefore (place text at) (place text other) → IsNotLater (place text at) rank (place text other) more
    by (inl a) = by_line a
    by (inr a) = by_column a.0 a.1
not_later text at rank other more le (inr h) = by_rank (ap (λ k. (place text k).line) h.0) (ap (λ k. (place text k).column) h.0) h.1
