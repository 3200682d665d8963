-- Numbers of leaves that stand in vectors.
use Rattle.std.proofs.Common.{Option, Some, ◌≡◌, ℕ, zero, suc, ◌<◌, ◌≤◌, ◌+◌, ◌-◌, ◌*◌, List, [], ◌∷◌, ◌++◌, map, refl, sym, ap, ap₂, ◌∙◌, arith}
use Rattle.std.specs.List.{range_with_len, flat_map}
use Rattle.std.proofs.lemmas.List.{map-append}
use Rattle.std.proofs.lemmas.List.Concat.{flat_map-cons}
use Rattle.ground_net.specs.declared.stretch.Span.{Span}
use Rattle.ground_net.specs.declared.stretch.Stretch.{Stretch}
use Rattle.ground_net.specs.Numbers.{listed, told, extent, IsSteady}
use Rattle.ground_net.proofs.Numbering.{range_more}

-- lists of equal lists are equal
alike : (f g : ℕ → List ℕ) (a n : ℕ) → ((k : ℕ) → a ≤ k → k < a + n → f k ≡ g k) → flat_map f (range_with_len a n) ≡ flat_map g (range_with_len a n)
alike f g a zero h = refl
alike f g a (suc n) h =
    flat_map-cons f a (range_with_len (a + 1) n)
    ∙ ap₂ (λ xs ys. xs ++ ys) (h a (omega arith) (omega arith)) (alike f g (a + 1) n (λ k low high. h k (omega arith) (omega arith)))
    ∙ sym (flat_map-cons g a (range_with_len (a + 1) n))

map_flat : (h : ℕ → ℕ) (f : ℕ → List ℕ) (xs : List ℕ) → map h (flat_map f xs) ≡ flat_map (λ x. map h (f x)) xs
map_flat h f [] = refl
map_flat h f (x ∷ xs) =
    ap (map h) (flat_map-cons f x xs)
    ∙ map-append h (f x) (flat_map f xs)
    ∙ ap (λ ys. map h (f x) ++ ys) (map_flat h f xs)
    ∙ sym (flat_map-cons (λ y. map h (f y)) x xs)

pub extent_some : (ss : List Span) → 1 ≤ extent ss
extent_some [] = omega arith
extent_some (s ∷ ss) = let rest = extent_some ss in omega arith

-- an element that isn't the last one begins no further than that
reaches : (k n stride : ℕ) → k < n → k * stride ≤ (n - 1) * stride
reaches k n stride h = grind (arith, h)

-- leaves that stay side by side are listed alike
pub listed_moved : (f : ℕ → ℕ) (ss : List Span) (x : ℕ) → ((o : ℕ) → o < extent ss → f (x + o) ≡ f x + o) → map f (listed ss x) ≡ listed ss (f x)
listed_moved f [] x h = refl
listed_moved f (s ∷ ss) x h =
    map_flat f (λ k. listed ss (x + k * s.stride)) (range_with_len 0 s.length)
    ∙ alike (λ k. map f (listed ss (x + k * s.stride))) (λ k. listed ss (f x + k * s.stride)) 0 s.length (λ k low high.
    let by : k * s.stride ≤ (s.length - 1) * s.stride = reaches k s.length s.stride (omega (arith, high)) in
    let some : 1 ≤ extent ss = extent_some ss in
    let here : f (x + k * s.stride) ≡ f x + k * s.stride = h (k * s.stride) (omega (arith, by, some)) in
    listed_moved f ss (x + k * s.stride) (λ o below.
    let there : f (x + (k * s.stride + o)) ≡ f x + (k * s.stride + o) = h (k * s.stride + o) (omega (arith, by, below)) in
    let left : x + (k * s.stride + o) ≡ x + k * s.stride + o = omega arith in
    let right : f x + (k * s.stride + o) ≡ f x + k * s.stride + o = omega arith in
    ap f (sym left) ∙ there ∙ right ∙ ap (λ y. y + o) (sym here))
    ∙ ap (listed ss) here)

-- a row of lists, one longer

behind : (xs ys zs : List ℕ) → xs ++ (ys ++ zs) ≡ (xs ++ ys) ++ zs
behind [] ys zs = refl
behind (x ∷ xs) ys zs = ap (λ ws. x ∷ ws) (behind xs ys zs)

flat_append : (f : ℕ → List ℕ) (xs : List ℕ) (x : ℕ) → flat_map f (xs ++ x ∷ []) ≡ flat_map f xs ++ f x
flat_append f [] x = flat_map-cons f x [] ∙ nothing (f x)
  where
    nothing : (ys : List ℕ) → ys ++ [] ≡ ys
    nothing [] = refl
    nothing (y ∷ ys) = ap (λ zs. y ∷ zs) (nothing ys)
flat_append f (y ∷ xs) x =
    flat_map-cons f y (xs ++ x ∷ []) ∙ ap (λ ys. f y ++ ys) (flat_append f xs x) ∙ behind (f y) (flat_map f xs) (f x) ∙ ap (λ ys. ys ++ f x) (sym (flat_map-cons f y xs))

pub row_more : (f : ℕ → List ℕ) (old mid new : List ℕ) (n : ℕ) → mid ≡ old ++ flat_map f (range_with_len 0 n) → new ≡ mid ++ f n → new ≡ old ++ flat_map f (range_with_len 0 (n + 1))
row_more f old mid new n m h =
    h ∙ ap (λ xs. xs ++ f n) m ∙ sym (behind old (flat_map f (range_with_len 0 n)) (f n))
    ∙ ap (λ xs. old ++ xs) (sym (flat_append f (range_with_len 0 n) n) ∙ ap (flat_map f) (sym (range_more n)))

pub stretch_moved : (f : ℕ → ℕ) (others : List ℕ) (o : Option Stretch) (r : Stretch) (spans : List Span) (first : ℕ) (before after : List ℕ) → before ≡ others ++ told o → o ≡ Some r → others ≡ []
    → spans ≡ r.spans → first ≡ f r.first → IsSteady f r → after ≡ listed spans first → after ≡ map f before
stretch_moved f others o r spans first before after is some none same moved steady h =
    h ∙ ap₂ (λ ss x. listed ss x) same moved ∙ sym (listed_moved f r.spans r.first steady) ∙ ap (map f) (sym (is ∙ ap₂ (λ xs p. xs ++ told p) none some))
