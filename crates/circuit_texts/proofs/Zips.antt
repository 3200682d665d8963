-- Lists that go along each other.
use Rattle.std.proofs.Common.{◌≡◌, ℕ, zero, suc, ◌+◌, ◌<◌, List, [], ◌∷◌, ◌++◌, map, take, length, get_or, Some, option_map, refl, ap, ap₂, subst, ◌∙◌, arith}
use Rattle.std.specs.Prelude.{slice_get, All, Contains}
use Rattle.std.specs.List.{AllZip}
use Rattle.std.proofs.lemmas.List.{take_more, map-append}
use Rattle.std.proofs.lemmas.List.Elements.{All-nil, All-cons}
use Rattle.std.proofs.lemmas.Option.{slice_get-get_or}

pub zip_push : {A B : Type 0} (P : A → B → Type 0) (xs : List A) (ys : List B) (x : A) (y : B) → AllZip P xs ys → P x y → AllZip P (xs ++ x ∷ []) (ys ++ y ∷ [])
zip_push P [] [] x y all p = (p, tt)
zip_push P [] (z ∷ ys) x y all p = absurd all
zip_push P (z ∷ xs) [] x y all p = absurd all
zip_push P (z ∷ xs) (w ∷ ys) x y all p = (all.0, zip_push P xs ys x y all.1 p)

pub map_take_more : {A B : Type 0} (f : A → B) (xs : List A) (k : ℕ) (d : A) → k < length xs → map f (take (k + 1) xs) ≡ map f (take k xs) ++ f (get_or xs k d) ∷ []
map_take_more f xs k d lt = ap (map f) (take_more xs k d lt) ∙ map-append f (take k xs) (get_or xs k d ∷ [])

pub get_map : {A B : Type 0} (f : A → B) (xs : List A) (k : ℕ) (x : A) → slice_get xs k ≡ Some x → slice_get (map f xs) k ≡ Some (f x)
get_map f [] k x e = absurd cc
get_map f (z ∷ xs) zero x e = ap (option_map f) e
get_map f (z ∷ xs) (suc k) x e = get_map f xs k x e

-- what goes along an item
pub zip_at : {A B : Type 0} (P : A → B → Type 0) (xs : List A) (ys : List B) (k : ℕ) (x : A) → AllZip P xs ys → slice_get xs k ≡ Some x → (y : B) × (slice_get ys k ≡ Some y) × P x y
zip_at P [] ys k x all e = absurd cc
zip_at P (z ∷ xs) [] k x all e = absurd all
zip_at P (z ∷ xs) (w ∷ ys) zero x all e = let same : z ≡ x = cc in (w, refl, subst (λ v. P v w) same all.0)
zip_at P (z ∷ xs) (w ∷ ys) (suc k) x all e = zip_at P xs ys k x all.1 e

-- what an item goes along
pub zip_from : {A B : Type 0} (P : A → B → Type 0) (xs : List A) (ys : List B) (k : ℕ) (y : B) → AllZip P xs ys → slice_get ys k ≡ Some y → (x : A) × (slice_get xs k ≡ Some x) × P x y
zip_from P [] [] k y all e = absurd cc
zip_from P [] (w ∷ ys) k y all e = absurd all
zip_from P (z ∷ xs) [] k y all e = absurd all
zip_from P (z ∷ xs) (w ∷ ys) zero y all e = let same : w ≡ y = cc in (z, refl, subst (P z) same all.0)
zip_from P (z ∷ xs) (w ∷ ys) (suc k) y all e = zip_from P xs ys k y all.1 e

-- two lists that go along a third one, which of an item leaves no choice
pub zip_same : {A B : Type 0} (P : A → B → Type 0) → ((x : A) (y z : B) → P x y → P x z → y ≡ z) → (xs : List A) (ys zs : List B) → AllZip P xs ys → AllZip P xs zs → ys ≡ zs
zip_same P one [] [] [] a b = refl
zip_same P one [] [] (z ∷ zs) a b = absurd b
zip_same P one [] (y ∷ ys) zs a b = absurd a
zip_same P one (x ∷ xs) [] zs a b = absurd a
zip_same P one (x ∷ xs) (y ∷ ys) [] a b = absurd b
zip_same P one (x ∷ xs) (y ∷ ys) (z ∷ zs) a b = ap₂ (λ v vs. v ∷ vs) (one x y z a.0 b.0) (zip_same P one xs ys zs a.1 b.1)

-- lists that go along a third one go along each other
pub zip_join : {A B C : Type 0} (P : A → B → Type 0) (Q : A → C → Type 0) (R : B → C → Type 0) → ((x : A) (y : B) (z : C) → P x y → Q x z → R y z) → (xs : List A) (ys : List B) (zs : List C) → AllZip P xs ys → AllZip Q xs zs → AllZip R ys zs
zip_join P Q R join [] [] [] a b = tt
zip_join P Q R join [] [] (z ∷ zs) a b = absurd b
zip_join P Q R join [] (y ∷ ys) zs a b = absurd a
zip_join P Q R join (x ∷ xs) [] zs a b = absurd a
zip_join P Q R join (x ∷ xs) (y ∷ ys) [] a b = absurd b
zip_join P Q R join (x ∷ xs) (y ∷ ys) (z ∷ zs) a b = (join x y z a.0 b.0, zip_join P Q R join xs ys zs a.1 b.1)

-- the other way round
pub zip_turn : {A B : Type 0} (P : A → B → Type 0) (xs : List A) (ys : List B) → AllZip P xs ys → AllZip (λ y x. P x y) ys xs
zip_turn P [] [] a = tt
zip_turn P [] (y ∷ ys) a = absurd a
zip_turn P (x ∷ xs) [] a = absurd a
zip_turn P (x ∷ xs) (y ∷ ys) a = (a.0, zip_turn P xs ys a.1)

pub zip_weaken : {A B : Type 0} (P Q : A → B → Type 0) → ((x : A) (y : B) → P x y → Q x y) → (xs : List A) (ys : List B) → AllZip P xs ys → AllZip Q xs ys
zip_weaken P Q h [] [] a = tt
zip_weaken P Q h [] (y ∷ ys) a = absurd a
zip_weaken P Q h (x ∷ xs) [] a = absurd a
zip_weaken P Q h (x ∷ xs) (y ∷ ys) a = (h x y a.0, zip_weaken P Q h xs ys a.1)

-- what holds of each item that goes along some other one
pub zip_all : {A B : Type 0} (P : A → B → Type 0) (Q : B → Type 0) → ((x : A) (y : B) → P x y → Q y) → (xs : List A) (ys : List B) → AllZip P xs ys → All Q ys
zip_all P Q h [] [] a = All-nil Q
zip_all P Q h [] (y ∷ ys) a = absurd a
zip_all P Q h (x ∷ xs) [] a = absurd a
zip_all P Q h (x ∷ xs) (y ∷ ys) a = All-cons Q y ys (h x y a.0) (zip_all P Q h xs ys a.1)

-- the place of an item
pub place_of : {A : Type 0} (xs : List A) (x : A) → Contains xs x → (k : ℕ) × (slice_get xs k ≡ Some x)
place_of xs x (k, below, is) = (k, slice_get-get_or xs k x below ∙ ap Some is)

pub among_at : {A : Type 0} (xs : List A) (k : ℕ) (x : A) → slice_get xs k ≡ Some x → Contains xs x
among_at [] k x e = absurd cc
among_at (z ∷ xs) zero x e = let same : z ≡ x = cc in (0, omega arith, same)
among_at (z ∷ xs) (suc k) x e = let rest = among_at xs k x e in (suc rest.0, omega arith, rest.2)
