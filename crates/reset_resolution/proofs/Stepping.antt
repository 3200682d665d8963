-- The steps of references.
use Rattle.std.proofs.Common.{arith, ◌≡◌, ℕ, zero, suc, ◌+◌, ◌-◌, ◌^◌, ◌≤◌, min, Bool, true, false, List, [], ◌∷◌, map, sum, length, take, drop, find, ◌==◌, sym, ap, ap₂, ◌∙◌, refl}
use Rattle.std.specs.Prelude.{cond, Option, Some, None, option_map, option_and_then}
use Rattle.std.specs.Option.{unwrap_or}
use Rattle.std.proofs.lemmas.Grind.{common_steps}
use Rattle.std.proofs.lemmas.List.{drop-drop}
use Rattle.fir_types.specs.declared.fir_type.FirType.{FirType}
use Rattle.fir_types.specs.declared.fir_type.Field.{Field}
use Rattle.fir_types.specs.declared.fir_type.Shape.{Shape}
use Rattle.fir_types.specs.declared.fir_type.Shape.TheOpen.{Shape-F}
use Rattle.fir_types.specs.declared.fir_type.Shape.TheViews.{out-Shape}
use Rattle.fir_types.specs.declared.index.FieldPlace.{FieldPlace}
use Rattle.fir_types.specs.Indexes.{first_at}
use Rattle.fir_types.specs.Spots.{size}
use Rattle.type_index.specs.Knowing.{weight, IsPlaceIn, fields_in, element_in as inner_of}
use Rattle.reset_search.specs.declared.spot.Spot.{Spot}
use Rattle.reset_search.specs.declared.spot.Reach.{Reach}
use Rattle.reset_search.specs.Feeds.{Step, along, reach, field_among, field_of, field_step, element_in, element_step}

pub along_none : (steps : List Step) → along steps None ≡ None
along_none [] = refl
along_none (s ∷ steps) = along_none steps

-- the places of the fields before one
abbrev before : List Field → ℕ → ℕ
before [] i = 0
before (f ∷ fs) zero = 0
before (f ∷ fs) (suc i) = size f.typ + before fs i

capped : (fs : List Field) (i : ℕ) → min (sum (take i (map weight fs))) (2 ^ 64 - 1) ≡ min (before fs i) (2 ^ 64 - 1)
capped [] zero = refl
capped [] (suc i) = refl
capped (f ∷ fs) zero = refl
capped (f ∷ fs) (suc i) =
    let one : sum (weight f ∷ take i (map weight fs)) ≡ weight f + sum (take i (map weight fs)) = grind (arith, common_steps) in
    omega (arith, one, capped fs i)

-- the places of the first field of a name, at its position
at_first : (name : ℕ) (fs : List Field) (spots : List Spot) (i : ℕ) (f : Field) → first_at fs name ≡ Some i → find (λ x. x.name.id == name) fs ≡ Some f
    → field_among name fs spots ≡ Some (reach f.typ (take (size f.typ) (drop (before fs i) spots)))
at_first name [] spots i f is found = absurd cc
at_first name (x ∷ xs) spots i f is found = by (x.name.id == name) (first_at xs name) refl is found (λ j. at_first name xs (drop (size x.typ) spots) j f)
  where
    by : (b : Bool) (o : Option ℕ) → first_at xs name ≡ o → cond b (Some 0) (option_map suc o) ≡ Some i → cond b (Some x) (find (λ y. y.name.id == name) xs) ≡ Some f
        → ((j : ℕ) → first_at xs name ≡ Some j → find (λ y. y.name.id == name) xs ≡ Some f
        → field_among name xs (drop (size x.typ) spots) ≡ Some (reach f.typ (take (size f.typ) (drop (before xs j) (drop (size x.typ) spots)))))
        → cond b (Some (reach x.typ (take (size x.typ) spots))) (field_among name xs (drop (size x.typ) spots)) ≡ Some (reach f.typ (take (size f.typ) (drop (before (x ∷ xs) i) spots)))
    by true o e is found tail =
        ap₂ (λ y n. Some (reach y.typ (take (size y.typ) (drop (before (x ∷ xs) n) spots)))) (ap (λ o. unwrap_or o x) found) (let z : 0 ≡ i = ap (λ o. unwrap_or o 0) is in z)
    by false (Some j) e is found tail =
        tail j e found ∙ ap (λ l. Some (reach f.typ (take (size f.typ) l))) (drop-drop (before xs j) (size x.typ) spots)
        ∙ ap (λ n. Some (reach f.typ (take (size f.typ) (drop (before (x ∷ xs) n) spots)))) (let z : suc j ≡ i = ap (λ o. unwrap_or o 0) is in z)
    by false None e is found tail = absurd cc

none_first : (name : ℕ) (fs : List Field) (spots : List Spot) → find (λ x. x.name.id == name) fs ≡ None → field_among name fs spots ≡ None
none_first name [] spots none = refl
none_first name (x ∷ xs) spots none = by (x.name.id == name) none (none_first name xs (drop (size x.typ) spots))
  where
    by : (b : Bool) → cond b (Some x) (find (λ y. y.name.id == name) xs) ≡ None
        → (find (λ y. y.name.id == name) xs ≡ None → field_among name xs (drop (size x.typ) spots) ≡ None)
        → cond b (Some (reach x.typ (take (size x.typ) spots))) (field_among name xs (drop (size x.typ) spots)) ≡ None
    by true none tail = absurd cc
    by false none tail = tail none

-- counts that stop at the greatest number cut the same

drop_min : (n : ℕ) (xs : List Spot) → drop (min n (length xs)) xs ≡ drop n xs
drop_min n xs = grind (arith, common_steps)

take_min : (n : ℕ) (xs : List Spot) → take (min n (length xs)) xs ≡ take n xs
take_min n xs = grind (arith, common_steps)

cut : (z b s : ℕ) (spots : List Spot) → length spots ≤ 2 ^ 64 - 1 → min b (2 ^ 64 - 1) ≡ min s (2 ^ 64 - 1) → take (min z (2 ^ 64 - 1)) (drop b spots) ≡ take z (drop s spots)
cut z b s spots fits h =
    let same : drop b spots ≡ drop s spots = sym (drop_min b spots) ∙ ap (λ n. drop n spots) (omega (arith, fits, h)) ∙ drop_min s spots in
    let short : length (drop s spots) ≤ length spots = grind (arith, common_steps) in
    ap (take (min z (2 ^ 64 - 1))) same ∙ sym (take_min (min z (2 ^ 64 - 1)) (drop s spots)) ∙ ap (λ n. take n (drop s spots)) (omega (arith, fits, short)) ∙ take_min z (drop s spots)

-- the step to a field, where there is one
pub field_told : (name : ℕ) (base : Reach) (f : Field) (place : FieldPlace) (typ : FirType) (count : ℕ) (spots : List Spot)
    → find (λ x. x.name.id == name) (fields_in (out-Shape base.typ.shape)) ≡ Some f → IsPlaceIn (fields_in (out-Shape base.typ.shape)) name place
    → typ ≡ f.typ → length base.spots ≤ 2 ^ 64 - 1 → count ≡ min (size typ) (2 ^ 64 - 1) → spots ≡ take count (drop place.before base.spots)
    → Some (reach typ spots) ≡ field_step name base
field_told name base f place typ count spots found at is fits counted own = by (out-Shape base.typ.shape) found at
  where
    by : (s : Shape-F Shape Field FirType) → find (λ x. x.name.id == name) (fields_in s) ≡ Some f → IsPlaceIn (fields_in s) name place → Some (reach typ spots) ≡ field_of name base.spots s
    by (Shape-F.Bundle fs) found at =
        let cuts : spots ≡ take (size f.typ) (drop (before fs place.position) base.spots)
        = own ∙ ap (λ c. take c (drop place.before base.spots)) (counted ∙ ap (λ t. min (size t) (2 ^ 64 - 1)) is)
        ∙ cut (size f.typ) place.before (before fs place.position) base.spots fits (at.before ∙ capped fs place.position) in
        ap₂ (λ t l. Some (reach t l)) is cuts ∙ sym (at_first name fs base.spots place.position f at.position found)
    by (Shape-F.Vector e n) found at = absurd cc
    by (Shape-F.Unsigned w) found at = absurd cc
    by (Shape-F.Signed w) found at = absurd cc
    by Shape-F.Clock found at = absurd cc
    by Shape-F.Reset found at = absurd cc
    by Shape-F.AsyncReset found at = absurd cc

-- and where there is none
pub field_none : (name : ℕ) (base : Reach) → find (λ x. x.name.id == name) (fields_in (out-Shape base.typ.shape)) ≡ None → None ≡ field_step name base
field_none name base none = by (out-Shape base.typ.shape) none
  where
    by : (s : Shape-F Shape Field FirType) → find (λ x. x.name.id == name) (fields_in s) ≡ None → None ≡ field_of name base.spots s
    by (Shape-F.Bundle fs) none = sym (none_first name fs base.spots none)
    by (Shape-F.Vector e n) none = refl
    by (Shape-F.Unsigned w) none = refl
    by (Shape-F.Signed w) none = refl
    by Shape-F.Clock none = refl
    by Shape-F.Reset none = refl
    by Shape-F.AsyncReset none = refl

-- the step to an element
pub element_told : (base : Reach) → option_map (λ e. reach e base.spots) (inner_of (out-Shape base.typ.shape)) ≡ element_step base
element_told base = by (out-Shape base.typ.shape)
  where
    by : (s : Shape-F Shape Field FirType) → option_map (λ e. reach e base.spots) (inner_of s) ≡ element_in base.spots s
    by (Shape-F.Bundle fs) = refl
    by (Shape-F.Vector e n) = refl
    by (Shape-F.Unsigned w) = refl
    by (Shape-F.Signed w) = refl
    by Shape-F.Clock = refl
    by Shape-F.Reset = refl
    by Shape-F.AsyncReset = refl
