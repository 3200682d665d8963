-- Lists.
use Rattle.std.proofs.Common.{◌≡◌, ℕ, zero, suc, ◌+◌, ◌<◌, ◌≤◌, List, [], ◌∷◌, ◌++◌, map, take, drop, length, Some, None, refl, sym, ap, ◌∙◌, subst, arith}
use Rattle.std.specs.Prelude.{slice_get, Contains}
use Rattle.std.specs.List.{AllZip}
use Rattle.std.proofs.lemmas.Grind.{common_steps, flat_map-append}
use Rattle.std.proofs.lemmas.Option.{slice_get-get_or, slice_get_within, get_or_from_slice_get, none-some, same_Some}
use Rattle.std.proofs.lemmas.List.{drop_more, take_more}
use Rattle.fir_types.specs.Leaves.{leaves}
use Rattle.net_of_circuit.specs.FlatOrder.{Placed, Standing, all_leaves}

pub among_at : {A : Type 0} (xs : List A) (k : ℕ) (x : A) → slice_get xs k ≡ Some x → Contains xs x
among_at [] k x e = absurd (none-some x e)
among_at (z ∷ xs) zero x e = (0, omega arith, same_Some z x e)
among_at (z ∷ xs) (suc k) x e = let rest = among_at xs k x e in (suc rest.0, omega (arith, rest.1), rest.2)

pub item_at : {A : Type 0} (xs : List A) (k : ℕ) → k < length xs → (x : A) × (slice_get xs k ≡ Some x)
item_at [] k less = absurd (omega (arith, less))
item_at (x ∷ xs) zero less = (x, refl)
item_at (x ∷ xs) (suc k) less = item_at xs k (omega (arith, less))

pub place_of : {A : Type 0} (xs : List A) (x : A) → Contains xs x → (k : ℕ) × (slice_get xs k ≡ Some x)
place_of xs x (k, below, is) = (k, slice_get-get_or xs k x below ∙ ap Some is)

pub none_among : {A : Type 0} (x : A) → Contains [] x → ⊥
none_among x (k, below, is) = omega (arith, below)

pub one_among : {A : Type 0} (x y : A) → Contains (x ∷ []) y → x ≡ y
one_among x y i = by (place_of (x ∷ []) y i)
  where
    by : (k : ℕ) × (slice_get (x ∷ []) k ≡ Some y) → x ≡ y
    by (zero, e) = same_Some x y e
    by (suc k, e) = absurd (none-some y e)

pub among_first : {A : Type 0} (x : A) (xs : List A) → Contains (x ∷ xs) x
among_first x xs = (0, omega arith, refl)

pub among_later : {A : Type 0} (z : A) (xs : List A) (x : A) → Contains xs x → Contains (z ∷ xs) x
among_later z xs x (k, below, is) = (suc k, omega (arith, below), is)

-- the item at a place, before what stands behind it
pub drop_at : {A : Type 0} (xs : List A) (k : ℕ) (x : A) → slice_get xs k ≡ Some x → drop k xs ≡ x ∷ drop (k + 1) xs
drop_at xs k x e = drop_more xs k x (slice_get_within xs k x e) ∙ ap (λ y. y ∷ drop (k + 1) xs) (get_or_from_slice_get xs k x x e)

pub take_at : {A : Type 0} (xs : List A) (k : ℕ) (x : A) → slice_get xs k ≡ Some x → take (k + 1) xs ≡ take k xs ++ x ∷ []
take_at xs k x e = take_more xs k x (slice_get_within xs k x e) ∙ ap (λ y. take k xs ++ y ∷ []) (get_or_from_slice_get xs k x x e)

pub past_end : {A : Type 0} (xs : List A) (k : ℕ) → slice_get xs k ≡ None → length xs ≤ k
past_end [] k e = omega arith
past_end (x ∷ xs) zero e = absurd (none-some x (sym e))
past_end (x ∷ xs) (suc k) e = let h = past_end xs k e in omega (arith, h)

-- the first behind others
pub get_behind : {A : Type 0} (before : List A) (k : ℕ) (x : A) (behind : List A) → k ≡ length before → slice_get (before ++ x ∷ behind) k ≡ Some x
get_behind [] zero x behind e = refl
get_behind [] (suc k) x behind e = absurd (omega (arith, e))
get_behind (b ∷ before) zero x behind e = absurd (omega (arith, e))
get_behind (b ∷ before) (suc k) x behind e = get_behind before k x behind (omega (arith, e))

-- lists that go along each other

pub zip_push : {A B : Type 0} (P : A → B → Type 0) (xs : List A) (ys : List B) (x : A) (y : B) → AllZip P xs ys → P x y → AllZip P (xs ++ x ∷ []) (ys ++ y ∷ [])
zip_push P [] [] x y all p = (p, tt)
zip_push P [] (z ∷ ys) x y all p = absurd all
zip_push P (z ∷ xs) [] x y all p = absurd all
zip_push P (z ∷ xs) (w ∷ ys) x y all p = (all.0, zip_push P xs ys x y all.1 p)

pub zip_append : {A B : Type 0} (P : A → B → Type 0) (xs : List A) (ys : List B) (us : List A) (vs : List B) → AllZip P xs ys → AllZip P us vs → AllZip P (xs ++ us) (ys ++ vs)
zip_append P [] [] us vs all rest = rest
zip_append P [] (z ∷ ys) us vs all rest = absurd all
zip_append P (z ∷ xs) [] us vs all rest = absurd all
zip_append P (z ∷ xs) (w ∷ ys) us vs all rest = (all.0, zip_append P xs ys us vs all.1 rest)

pub zip_from : {A B : Type 0} (P : A → B → Type 0) (xs : List A) (ys : List B) (k : ℕ) (y : B) → AllZip P xs ys → slice_get ys k ≡ Some y → (x : A) × (slice_get xs k ≡ Some x) × P x y
zip_from P [] [] k y all e = absurd (none-some y e)
zip_from P [] (w ∷ ys) k y all e = absurd all
zip_from P (z ∷ xs) [] k y all e = absurd all
zip_from P (z ∷ xs) (w ∷ ys) zero y all e = (z, refl, subst (P z) (same_Some w y e) all.0)
zip_from P (z ∷ xs) (w ∷ ys) (suc k) y all e = zip_from P xs ys k y all.1 e

pub zip_long : {A B : Type 0} (P : A → B → Type 0) (xs : List A) (ys : List B) → AllZip P xs ys → length xs ≡ length ys
zip_long P [] [] all = refl
zip_long P [] (w ∷ ys) all = absurd all
zip_long P (z ∷ xs) [] all = absurd all
zip_long P (z ∷ xs) (w ∷ ys) all = ap suc (zip_long P xs ys all.1)

-- leaves

abbrev pub leaves_at : Placed → List Standing
leaves_at p = map (λ leaf. (p, leaf)) (leaves p.c.typ)

pub leaves_cons : (p : Placed) (ps : List Placed) → all_leaves (p ∷ ps) ≡ leaves_at p ++ all_leaves ps
leaves_cons p ps = grind (arith, common_steps)

pub leaves_append : (xs ys : List Placed) → all_leaves (xs ++ ys) ≡ all_leaves xs ++ all_leaves ys
leaves_append xs ys = flat_map-append leaves_at xs ys
