-- Items that stand side by side, each with so many numbers.
use Rattle.std.proofs.Common.{◌≡◌, ◌⊎◌, ⊎_elim, ℕ, zero, suc, ◌+◌, ◌-◌, ◌<◌, ◌≤◌, List, [], ◌∷◌, take, slice_get, sum_by, Option, Some, None, refl, ap, arith}
use Rattle.std.proofs.lemmas.Bool.{cases_lt, cases_eq}
use Rattle.std.proofs.lemmas.List.Sums.{sum_by-cons}

pub some_same : {A : Type 0} {x y : A} → Some x ≡ Some y → x ≡ y
some_same e = cc

pub none_some : {A : Type 0} {x : A} → None ≡ Some x → ⊥
none_some e = cc

first_before : (n x a s t : ℕ) → n ≡ 0 → a ≡ x → t ≡ a + s → n + x ≤ t
first_before n x a s t e f g = omega (arith, e, f, g)

later_before : (p q a t u x : ℕ) → p ≡ a + t → q ≡ a + u → t + x ≤ u → p + x ≤ q
later_before p q a t u x e f h = omega (arith, e, f, h)

-- an item's numbers are before those of a later one
pub block_before : {A : Type 0} (f : A → ℕ) (xs : List A) (j k : ℕ) (x : A) → slice_get xs j ≡ Some x → j < k → sum_by f (take j xs) + f x ≤ sum_by f (take k xs)
block_before f [] j k x e lt = absurd (none_some e)
block_before f (a ∷ xs) zero zero x e lt = absurd (omega (arith, lt))
block_before f (a ∷ xs) zero (suc k) x e lt =
    first_before (sum_by f (take 0 (a ∷ xs))) (f x) (f a) (sum_by f (take k xs)) (sum_by f (a ∷ take k xs)) refl (ap f (some_same e)) (sum_by-cons f a (take k xs))
block_before f (a ∷ xs) (suc j) zero x e lt = absurd (omega (arith, lt))
block_before f (a ∷ xs) (suc j) (suc k) x e lt =
    later_before (sum_by f (a ∷ take j xs)) (sum_by f (a ∷ take k xs)) (f a) (sum_by f (take j xs)) (sum_by f (take k xs)) (f x)
    (sum_by-cons f a (take j xs)) (sum_by-cons f a (take k xs)) (block_before f xs j k x e (omega (arith, lt)))

-- a number is one of an item, which stands behind so many numbers
pub record IsIn (first count i : ℕ) : Type 0 where
  pub from : first ≤ i
  pub below : i < first + count

apart : (a x b y i : ℕ) → a + x ≤ b → IsIn a x i → IsIn b y i → ⊥
apart a x b y i h p q = let l = p.below in let r = q.from in omega (arith, h, l, r)

pub one_block : {A : Type 0} (f : A → ℕ) (xs : List A) (j k i : ℕ) (x y : A) → slice_get xs j ≡ Some x → slice_get xs k ≡ Some y
    → IsIn (sum_by f (take j xs)) (f x) i → IsIn (sum_by f (take k xs)) (f y) i → j ≡ k
one_block f xs j k i x y e g p q = ⊎_elim
    (λ same. same)
    (λ other. ⊎_elim
    (λ less. absurd (apart (sum_by f (take j xs)) (f x) (sum_by f (take k xs)) (f y) i (block_before f xs j k x e less) p q))
    (λ more. absurd (apart (sum_by f (take k xs)) (f y) (sum_by f (take j xs)) (f x) i (block_before f xs k j y g (behind j k other more)) q p))
    (cases_lt j k))
    (cases_eq j k)
  where
    behind : (j k : ℕ) → (j ≡ k → ⊥) → k ≤ j → k < j
    behind j k n le = ⊎_elim (λ lt. lt) (λ ge. absurd (n (omega (arith, le, ge)))) (cases_lt k j)

-- each number below the sum is one of an item
pub record AtBlock {A : Type 0} (f : A → ℕ) (xs : List A) (i : ℕ) : Type 0 where
  pub number : ℕ
  pub item : A
  pub there : slice_get xs number ≡ Some item
  pub is : IsIn (sum_by f (take number xs)) (f item) i

here_in : (n a i : ℕ) → n ≡ 0 → i < a → IsIn n a i
here_in n a i e lt = record { from = omega (arith, e); below = omega (arith, e, lt) }

later_in : (a p t c i : ℕ) → p ≡ a + t → a ≤ i → IsIn t c (i - a) → IsIn p c i
later_in a p t c i e le h = let l = h.from in let r = h.below in record { from = omega (arith, e, le, l); below = omega (arith, e, le, r) }

rest_below : (i a s t : ℕ) → t ≡ a + s → a ≤ i → i < t → i - a < s
rest_below i a s t e le lt = omega (arith, e, le, lt)

pub block_of : {A : Type 0} (f : A → ℕ) (xs : List A) (i : ℕ) → i < sum_by f xs → AtBlock f xs i
block_of f [] i lt = absurd (omega (arith, lt))
block_of f (a ∷ xs) i lt = ⊎_elim
    (λ here. record { number = 0; item = a; there = refl; is = here_in (sum_by f (take 0 (a ∷ xs))) (f a) i refl here })
    (λ past.
    let h = block_of f xs (i - f a) (rest_below i (f a) (sum_by f xs) (sum_by f (a ∷ xs)) (sum_by-cons f a xs) past lt) in
    record { number = suc h.number; item = h.item; there = h.there; is = later_in (f a) (sum_by f (a ∷ take h.number xs)) (sum_by f (take h.number xs)) (f h.item) i (sum_by-cons f a (take h.number xs)) past h.is })
    (cases_lt i (f a))
