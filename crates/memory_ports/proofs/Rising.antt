-- Lists of numbers that rise.
use Rattle.std.proofs.Common.{◌≡◌, ℕ, zero, suc, ◌<◌, ◌≤◌, List, [], ◌∷◌, refl, sym, ap₂, arith, Some, slice_get, ◌⊎◌, inl, inr, ⊎_elim}
use Rattle.memory_ports.proofs.Lists.{some_same, none_some}

pub record Rises (xs : List ℕ) : Type 0 where
  pub rises : (i j x y : ℕ) → i < j → slice_get xs i ≡ Some x → slice_get xs j ≡ Some y → x < y

abbrev pub Among : List ℕ → ℕ → Type 0
Among xs x = (i : ℕ) × (slice_get xs i ≡ Some x)

tail_rises : (x : ℕ) (xs : List ℕ) → Rises (x ∷ xs) → Rises xs
tail_rises x xs r = record { rises = λ i j a b h e f. let more : suc i < suc j = omega (arith, h) in r.rises (suc i) (suc j) a b more e f }

above_head : (x : ℕ) (xs : List ℕ) → Rises (x ∷ xs) → (y : ℕ) → Among xs y → x < y
above_head x xs r y (j, e) = let first : zero < suc j = omega arith in r.rises zero (suc j) x y first refl e

at_head : (x : ℕ) (xs : List ℕ) (y : ℕ) → Among (x ∷ xs) y → (x ≡ y) ⊎ Among xs y
at_head x xs y (zero, e) = inl (some_same e)
at_head x xs y (suc i, e) = inr (i, e)

least : (x : ℕ) (xs : List ℕ) → Rises (x ∷ xs) → (y : ℕ) → Among (x ∷ xs) y → x ≤ y
least x xs r y m = ⊎_elim (λ e. omega (arith, e)) (λ h. let above = above_head x xs r y h in omega (arith, above)) (at_head x xs y m)

in_tail : (x : ℕ) (xs : List ℕ) (y : ℕ) (ys : List ℕ) → Rises (x ∷ xs) → x ≡ y → ((z : ℕ) → Among (x ∷ xs) z → Among (y ∷ ys) z) → (z : ℕ) → Among xs z → Among ys z
in_tail x xs y ys r e f z m =
    let above = above_head x xs r z m in
    ⊎_elim (λ h. absurd (omega (arith, above, e, h))) (λ h. h) (at_head y ys z (f z (suc m.0, m.1)))

-- two lists that rise and have the same members are the same
pub same_rising : (xs ys : List ℕ) → Rises xs → Rises ys → ((x : ℕ) → Among xs x → Among ys x) → ((x : ℕ) → Among ys x → Among xs x) → xs ≡ ys
same_rising [] [] r s f g = refl
same_rising [] (y ∷ ys) r s f g = absurd (none_some ((g y (zero, refl)).1))
same_rising (x ∷ xs) [] r s f g = absurd (none_some ((f x (zero, refl)).1))
same_rising (x ∷ xs) (y ∷ ys) r s f g =
    let below = least y ys s x (f x (zero, refl)) in
    let above = least x xs r y (g y (zero, refl)) in
    let e : x ≡ y = omega (arith, below, above) in
    ap₂ (λ z l. z ∷ l) e (same_rising xs ys (tail_rises x xs r) (tail_rises y ys s) (in_tail x xs y ys r e f) (in_tail y ys x xs s (sym e) g))
