-- Lists.
use Rattle.std.proofs.Common.{◌≡◌, ℕ, zero, suc, ◌+◌, ◌<◌, Bool, true, false, cond, List, [], ◌∷◌, ◌++◌, length, take, drop, map, filter, reverse, Option, Some, None, option_map, refl, sym, ap, ap₂, ◌∙◌, subst, arith, append_assoc, slice_get, ◌⊎◌, inl, inr, ⊎_elim}
use Rattle.std.specs.Prelude.{find, filter_map, All}
use Rattle.std.specs.List.{AllZip, range_with_len, enumerate_from, cons_option}
use Rattle.std.proofs.lemmas.List.{reverse-append, take-append-drop}
use Rattle.std.proofs.lemmas.Option.{get_or_from_slice_get, slice_get_within}
use Rattle.std.proofs.Math.Seq.{take-append_seam}

pub some_same : {A : Type 0} {x y : A} → Some x ≡ Some y → x ≡ y
some_same e = cc

pub none_some : {A B : Type 0} {x : A} → None ≡ Some x → B
none_some e = absurd cc

-- Numbers

pub range_split : (a n m : ℕ) → range_with_len a (n + m) ≡ range_with_len a n ++ range_with_len (a + n) m
range_split a zero m =
    let k : 0 + m ≡ m = omega arith in
    let b : a ≡ a + 0 = omega arith in
    ap (range_with_len a) k ∙ ap (λ c. range_with_len c m) b
range_split a (suc n) m =
    let k : suc n + m ≡ suc (n + m) = omega arith in
    let b : a + 1 + n ≡ a + suc n = omega arith in
    ap (range_with_len a) k ∙ ap (λ l. a ∷ l) (range_split (a + 1) n m ∙ ap (λ c. range_with_len (a + 1) n ++ range_with_len c m) b)

pub enumerate_split : {A : Type 0} (a : ℕ) (xs ys : List A) → enumerate_from a (xs ++ ys) ≡ enumerate_from a xs ++ enumerate_from (a + length xs) ys
enumerate_split a [] ys = let b : a ≡ a + 0 = omega arith in ap (λ c. enumerate_from c ys) b
enumerate_split {A} a (x ∷ xs) ys =
    let b : a + 1 + length xs ≡ a + suc (length xs) = omega arith in
    ap (λ (l : List (ℕ × A)). (a, x) ∷ l) (enumerate_split (a + 1) xs ys ∙ ap (λ c. enumerate_from (a + 1) xs ++ enumerate_from c ys) b)

pub get_enumerate : {A : Type 0} (a : ℕ) (xs : List A) (k : ℕ) → slice_get (enumerate_from a xs) k ≡ option_map {U = ℕ × A} (λ x. (a + k, x)) (slice_get xs k)
get_enumerate a [] k = refl
get_enumerate {A} a (x ∷ xs) zero = let b : a ≡ a + 0 = omega arith in ap {B = Option (ℕ × A)} (λ c. Some (c, x)) b
get_enumerate {A} a (x ∷ xs) (suc k) = let b : a + 1 + k ≡ a + suc k = omega arith in get_enumerate (a + 1) xs k ∙ ap (λ c. option_map {U = ℕ × A} (λ y. (c, y)) (slice_get xs k)) b

-- Items

-- an item of two lists stands in the first or in the second
pub in_append : {A : Type 0} (xs ys : List A) (k : ℕ) (x : A) → slice_get (xs ++ ys) k ≡ Some x → ((j : ℕ) × (slice_get xs j ≡ Some x)) ⊎ ((j : ℕ) × (slice_get ys j ≡ Some x))
in_append [] ys k x e = inr (k, e)
in_append (z ∷ xs) ys zero x e = inl (0, e)
in_append (z ∷ xs) ys (suc k) x e = ⊎_elim (λ here. inl (suc here.0, here.1)) (λ there. inr there) (in_append xs ys k x e)

pub in_front : {A : Type 0} (xs ys : List A) (k : ℕ) (x : A) → slice_get xs k ≡ Some x → slice_get (xs ++ ys) k ≡ Some x
in_front [] ys k x e = none_some e
in_front (z ∷ xs) ys zero x e = e
in_front (z ∷ xs) ys (suc k) x e = in_front xs ys k x e

pub get_item : {A : Type 0} (xs : List A) (x : ℕ) → x < length xs → (y : A) × (slice_get xs x ≡ Some y)
get_item [] x h = absurd (omega arith)
get_item (a ∷ xs) zero h = (a, refl)
get_item (a ∷ xs) (suc x) h = get_item xs x (omega arith)

pub filter_in : {A : Type 0} (p : A → Bool) (xs : List A) (k : ℕ) (x : A) → slice_get (filter p xs) k ≡ Some x → (j : ℕ) × (slice_get xs j ≡ Some x)
filter_in p [] k x e = none_some e
filter_in {A} p (y ∷ xs) k x e = by (p y) k e (λ k e. let r = filter_in p xs k x e in (suc r.0, r.1)) where
  by : (b : Bool) (k : ℕ) → slice_get (cond b (y ∷ filter p xs) (filter p xs)) k ≡ Some x → ((k : ℕ) → slice_get (filter p xs) k ≡ Some x → (j : ℕ) × (slice_get (y ∷ xs) j ≡ Some x))
      → (j : ℕ) × (slice_get (y ∷ xs) j ≡ Some x)
  by true zero e later = (0, e)
  by true (suc k) e later = later k e
  by false k e later = later k e

-- what an item gives is among what all items give
pub filter_map_at : {A B : Type 0} (h : A → Option B) (xs : List A) (j : ℕ) (x : A) (y : B) → slice_get xs j ≡ Some x → h x ≡ Some y → (k : ℕ) × (slice_get (filter_map h xs) k ≡ Some y)
filter_map_at h [] j x y e f = none_some e
filter_map_at h (z ∷ xs) zero x y e f = (0, ap (λ o. slice_get (cons_option o (filter_map h xs)) 0) (ap h (some_same e) ∙ f))
filter_map_at {A} {B} h (z ∷ xs) (suc j) x y e f = by (h z) (filter_map_at h xs j x y e f) where
  by : (o : Option B) → (k : ℕ) × (slice_get (filter_map h xs) k ≡ Some y) → (k : ℕ) × (slice_get (cons_option o (filter_map h xs)) k ≡ Some y)
  by None r = r
  by (Some w) r = (suc r.0, r.1)

pub some_of : {A B : Type 0} (h : A → B) (o : Option A) (y : B) → option_map h o ≡ Some y → (x : A) × (o ≡ Some x) × (h x ≡ y)
some_of h (Some x) y e = (x, refl, some_same e)
some_of h None y e = none_some e

-- what all items give is what one gives
pub filter_map_from : {A B : Type 0} (h : A → Option B) (xs : List A) (k : ℕ) (y : B) → slice_get (filter_map h xs) k ≡ Some y → (j : ℕ) × (x : A) × (slice_get xs j ≡ Some x) × (h x ≡ Some y)
filter_map_from h [] k y e = none_some e
filter_map_from {A} {B} h (z ∷ xs) k y e = by (h z) refl k e (λ k e. filter_map_from h xs k y e) where
  by : (o : Option B) → h z ≡ o → (k : ℕ) → slice_get (cons_option o (filter_map h xs)) k ≡ Some y → ((k : ℕ) → slice_get (filter_map h xs) k ≡ Some y → (j : ℕ) × (x : A) × (slice_get xs j ≡ Some x) × (h x ≡ Some y))
      → (j : ℕ) × (x : A) × (slice_get (z ∷ xs) j ≡ Some x) × (h x ≡ Some y)
  by None q k e later = let r = later k e in (suc r.0, r.1, r.2, r.3)
  by (Some w) q zero e later = (0, z, refl, q ∙ e)
  by (Some w) q (suc k) e later = let r = later k e in (suc r.0, r.1, r.2, r.3)

pub all_at : {A : Type 0} (P : A → Type 0) (xs : List A) → All P xs → (k : ℕ) (x : A) → slice_get xs k ≡ Some x → P x
all_at P xs h k x e = subst P (get_or_from_slice_get xs k x x e) (h k x (slice_get_within xs k x e))

-- what is found passes, and is an item
pub find_at : {A : Type 0} (p : A → Bool) (xs : List A) (x : A) → find p xs ≡ Some x → (k : ℕ) × (slice_get xs k ≡ Some x) × (p x ≡ true)
find_at p [] x e = none_some e
find_at {A} p (y ∷ xs) x e = by (p y) refl e (λ e. find_at p xs x e) where
  by : (b : Bool) → p y ≡ b → cond b (Some y) (find p xs) ≡ Some x → (find p xs ≡ Some x → (k : ℕ) × (slice_get xs k ≡ Some x) × (p x ≡ true)) → (k : ℕ) × (slice_get (y ∷ xs) k ≡ Some x) × (p x ≡ true)
  by true q e later = (0, e, ap p (sym (some_same e)) ∙ q)
  by false q e later = let r = later e in (suc r.0, r.1, r.2)

pub reverse_at : {A : Type 0} (xs : List A) (k : ℕ) (x : A) → slice_get (reverse xs) k ≡ Some x → (j : ℕ) × (slice_get xs j ≡ Some x)
reverse_at [] k x e = none_some e
reverse_at {A} (y ∷ xs) k x e = ⊎_elim
    (λ front. let r = reverse_at xs front.0 x front.1 in (suc r.0, r.1))
    (λ last. one last.0 last.1)
    (in_append (reverse xs) (y ∷ []) k x (ap (λ l. slice_get l k) (sym (reverse-append (y ∷ []) xs)) ∙ e))
  where
    one : (j : ℕ) → slice_get (y ∷ []) j ≡ Some x → (j : ℕ) × (slice_get (y ∷ xs) j ≡ Some x)
    one zero e = (0, e)
    one (suc j) e = none_some e

-- Pairs of items

pub zip_right : {A B : Type 0} (R : A → B → Type 0) (xs : List A) (ys : List B) → AllZip R xs ys → (k : ℕ) (y : B) → slice_get ys k ≡ Some y → (x : A) × (slice_get xs k ≡ Some x) × R x y
zip_right R [] [] h k y e = none_some e
zip_right R [] (z ∷ ys) h k y e = absurd h
zip_right R (x ∷ xs) [] h k y e = absurd h
zip_right R (x ∷ xs) (z ∷ ys) h zero y e = (x, refl, subst (R x) (some_same e) h.0)
zip_right R (x ∷ xs) (z ∷ ys) h (suc k) y e = zip_right R xs ys h.1 k y e

pub zip_left : {A B : Type 0} (R : A → B → Type 0) (xs : List A) (ys : List B) → AllZip R xs ys → (k : ℕ) (x : A) → slice_get xs k ≡ Some x → (y : B) × (slice_get ys k ≡ Some y) × R x y
zip_left R [] [] h k x e = none_some e
zip_left R [] (z ∷ ys) h k x e = absurd h
zip_left R (z ∷ xs) [] h k x e = absurd h
zip_left R (z ∷ xs) (y ∷ ys) h zero x e = (y, refl, subst (λ w. R w y) (some_same e) h.0)
zip_left R (z ∷ xs) (y ∷ ys) h (suc k) x e = zip_left R xs ys h.1 k x e

pub zip_map : {A B C : Type 0} (R : A → B → Type 0) (f : A → C) (g : B → C) → ((x : A) (y : B) → R x y → g y ≡ f x) → (xs : List A) (ys : List B) → AllZip R xs ys → map g ys ≡ map f xs
zip_map R f g each [] [] h = refl
zip_map R f g each [] (y ∷ ys) h = absurd h
zip_map R f g each (x ∷ xs) [] h = absurd h
zip_map R f g each (x ∷ xs) (y ∷ ys) h = ap₂ (λ a l. a ∷ l) (each x y h.0) (zip_map R f g each xs ys h.1)

-- Prefixes

pub front_of : (xs ys zs : List ℕ) (n : ℕ) → take (length (xs ++ take n ys)) ((xs ++ ys) ++ zs) ≡ xs ++ take n ys
front_of xs ys zs n =
    ap (take (length (xs ++ take n ys)))
    (ap (λ l. (xs ++ l) ++ zs) (sym (take-append-drop n ys))
    ∙ (ap (λ l. l ++ zs) (sym (append_assoc xs (take n ys) (drop n ys))) ∙ append_assoc (xs ++ take n ys) (drop n ys) zs))
    ∙ take-append_seam (xs ++ take n ys) (drop n ys ++ zs)
