-- The field of a name where its type's tree has it.
use Rattle.std.proofs.Common.{◌≡◌, ℕ, zero, suc, ◌+◌, ◌-◌, ◌^◌, ◌≤◌, min, Bool, true, false, List, [], ◌∷◌, map, sum, length, take, drop, find, ◌==◌, sym, ap, ap₂, ◌∙◌, refl, arith}
use Rattle.std.specs.Prelude.{cond, Option, Some, None, option_map}
use Rattle.std.specs.Option.{unwrap_or}
use Rattle.std.proofs.lemmas.Grind.{common_steps}
use Rattle.std.proofs.lemmas.List.{drop-drop}
use Rattle.fir_types.specs.declared.fir_type.FirType.{FirType}
use Rattle.fir_types.specs.declared.fir_type.Field.{Field}
use Rattle.fir_types.specs.declared.fir_type.Shape.{Shape}
use Rattle.fir_types.specs.declared.fir_type.Shape.TheOpen.{Shape-F}
use Rattle.fir_types.specs.declared.fir_type.Shape.TheViews.{out-Shape}
use Rattle.fir_types.specs.declared.fir_type.Shape.TheVariants as shape
use Rattle.fir_types.specs.declared.fir_type.Shape.TheVariants.{outs-Bundle}
use Rattle.fir_types.specs.declared.index.FieldPlace.{FieldPlace}
use Rattle.fir_types.specs.Indexes.{first_at}
use Rattle.fir_tree.specs.declared.part.Flow.{Flow}
use Rattle.fir_tree.specs.Parts.{part_of, flow_through, field_or_whole, field_of_layer}
use Rattle.fir_types.specs.Spots.{field_size}
use Rattle.fir_types.proofs.SpotLayers.{size-bundle, size-field}
use Rattle.type_index.specs.Knowing.{weight, IsPlaceIn, fields_in}
use Rattle.width_rules.specs.declared.slot.Slot.{Slot}
use Rattle.width_rules.specs.declared.component.Component.{Component}
use Rattle.width_rules.specs.Places.{size, field_slots, slots_of_layer, slots_of_field}
use Rattle.width_rules.specs.Sources.{field_step}

-- the places of the fields before one
abbrev before : List Field → ℕ → ℕ
before [] i = 0
before (f ∷ fs) zero = 0
before (f ∷ fs) (suc i) = size f.typ + before fs i

capped : (fs : List Field) (i : ℕ) → min (sum (take i (map weight fs))) (2 ^ 64 - 1) ≡ min (before fs i) (2 ^ 64 - 1)
capped [] zero = refl
capped [] (suc i) = refl
capped (f ∷ fs) zero = refl
capped (f ∷ fs) (suc i) =
    let one : sum (weight f ∷ take i (map weight fs)) ≡ weight f + sum (take i (map weight fs)) = grind (arith, common_steps) in
    omega (arith, one, capped fs i)

-- the widths of the first field of a name, at its position
at_first : (name : ℕ) (fs : List Field) (slots : List Slot) (i : ℕ) (f : Field) → first_at fs name ≡ Some i → find (λ x. x.name.id == name) fs ≡ Some f
    → field_slots name fs slots ≡ take (size f.typ) (drop (before fs i) slots)
at_first name [] slots i f is found = absurd cc
at_first name (x ∷ xs) slots i f is found = by (x.name.id == name) (first_at xs name) refl is found (λ j. at_first name xs (drop (size x.typ) slots) j f)
  where
    by : (b : Bool) (o : Option ℕ) → first_at xs name ≡ o → cond b (Some 0) (option_map suc o) ≡ Some i → cond b (Some x) (find (λ y. y.name.id == name) xs) ≡ Some f
        → ((j : ℕ) → first_at xs name ≡ Some j → find (λ y. y.name.id == name) xs ≡ Some f → field_slots name xs (drop (size x.typ) slots) ≡ take (size f.typ) (drop (before xs j) (drop (size x.typ) slots)))
        → cond b (take (size x.typ) slots) (field_slots name xs (drop (size x.typ) slots)) ≡ take (size f.typ) (drop (before (x ∷ xs) i) slots)
    by true o e is found tail =
        ap₂ (λ y n. take (size y.typ) (drop (before (x ∷ xs) n) slots)) (ap (λ o. unwrap_or o x) found) (let z : 0 ≡ i = ap (λ o. unwrap_or o 0) is in z)
    by false (Some j) e is found tail =
        tail j e found ∙ ap (take (size f.typ)) (drop-drop (before xs j) (size x.typ) slots)
        ∙ ap (λ n. take (size f.typ) (drop (before (x ∷ xs) n) slots)) (let z : suc j ≡ i = ap (λ o. unwrap_or o 0) is in z)
    by false None e is found tail = absurd cc

sum_more : (n : ℕ) (ns : List ℕ) → sum (n ∷ ns) ≡ n + sum ns
sum_more n ns = grind (arith, common_steps)

-- what is left behind all fields, where none has the name
none_first : (name : ℕ) (fs : List Field) (slots : List Slot) → find (λ x. x.name.id == name) fs ≡ None → field_slots name fs slots ≡ drop (sum (map field_size fs)) slots
none_first name [] slots none = refl
none_first name (x ∷ xs) slots none = by (x.name.id == name) none (none_first name xs (drop (size x.typ) slots))
  where
    by : (b : Bool) → cond b (Some x) (find (λ y. y.name.id == name) xs) ≡ None
        → (find (λ y. y.name.id == name) xs ≡ None → field_slots name xs (drop (size x.typ) slots) ≡ drop (sum (map field_size xs)) (drop (size x.typ) slots))
        → cond b (take (size x.typ) slots) (field_slots name xs (drop (size x.typ) slots)) ≡ drop (sum (map field_size (x ∷ xs))) slots
    by true none tail = absurd cc
    by false none tail =
        tail none ∙ drop-drop (sum (map field_size xs)) (size x.typ) slots
        ∙ ap (λ n. drop (n + sum (map field_size xs)) slots) (sym (size-field x)) ∙ ap (λ n. drop n slots) (sym (sum_more (field_size x) (map field_size xs)))

-- counts that stop at the greatest number cut the same

drop_min : (n : ℕ) (xs : List Slot) → drop (min n (length xs)) xs ≡ drop n xs
drop_min n xs = grind (arith, common_steps)

take_min : (n : ℕ) (xs : List Slot) → take (min n (length xs)) xs ≡ take n xs
take_min n xs = grind (arith, common_steps)

cut : (z b s : ℕ) (slots : List Slot) → length slots ≤ 2 ^ 64 - 1 → min b (2 ^ 64 - 1) ≡ min s (2 ^ 64 - 1) → take (min z (2 ^ 64 - 1)) (drop b slots) ≡ take z (drop s slots)
cut z b s slots fits h =
    let same : drop b slots ≡ drop s slots = sym (drop_min b slots) ∙ ap (λ n. drop n slots) (omega (arith, fits, h)) ∙ drop_min s slots in
    let short : length (drop s slots) ≤ length slots = grind (arith, common_steps) in
    ap (take (min z (2 ^ 64 - 1))) same ∙ sym (take_min (min z (2 ^ 64 - 1)) (drop s slots)) ∙ ap (λ n. take n (drop s slots)) (omega (arith, fits, short)) ∙ take_min z (drop s slots)

drop_capped : (z : ℕ) (xs : List Slot) → length xs ≤ 2 ^ 64 - 1 → drop (min z (2 ^ 64 - 1)) xs ≡ drop z xs
drop_capped z xs h = sym (drop_min (min z (2 ^ 64 - 1)) xs) ∙ ap (λ n. drop n xs) (let k : min (min z (2 ^ 64 - 1)) (length xs) ≡ min z (length xs) = omega (arith, h) in k) ∙ drop_min z xs

-- the step to a field, where there is one
pub field_told : (name : ℕ) (base : Component) (f : Field) (place : FieldPlace) (typ : FirType) (flow : Flow) (count : ℕ) (slots : List Slot)
    → find (λ x. x.name.id == name) (fields_in (out-Shape base.part.typ.shape)) ≡ Some f → IsPlaceIn (fields_in (out-Shape base.part.typ.shape)) name place
    → typ ≡ f.typ → flow ≡ flow_through f.flip base.part.flow → length base.slots ≤ 2 ^ 64 - 1 → count ≡ min (size typ) (2 ^ 64 - 1) → slots ≡ take count (drop place.before base.slots)
    → record { part = record { typ = typ; flow = flow }; slots = slots } ≡ field_step name base
field_told name base f place typ flow count slots found at is turns fits counted own = by (out-Shape base.part.typ.shape) found at
  where
    by : (s : Shape-F Shape Field FirType) → find (λ x. x.name.id == name) (fields_in s) ≡ Some f → IsPlaceIn (fields_in s) name place
        → ◌≡◌ {A = Component} (record { part = record { typ = typ; flow = flow }; slots = slots }) (record { part = field_of_layer name base.part s; slots = slots_of_layer name s base.slots })
    by (Shape-F.Bundle fs) found at =
        let part : part_of typ flow ≡ field_or_whole base.part (find (λ x. x.name.id == name) fs) = ap₂ part_of is turns ∙ ap (field_or_whole base.part) (sym found) in
        let cuts : slots ≡ field_slots name fs base.slots
        = own ∙ ap (λ c. take c (drop place.before base.slots)) (counted ∙ ap (λ t. min (size t) (2 ^ 64 - 1)) is)
        ∙ cut (size f.typ) place.before (before fs place.position) base.slots fits (at.before ∙ capped fs place.position) ∙ sym (at_first name fs base.slots place.position f at.position found) in
        λ i. record { part = part i; slots = cuts i }
    by (Shape-F.Vector e n) found at = absurd cc
    by (Shape-F.Unsigned w) found at = absurd cc
    by (Shape-F.Signed w) found at = absurd cc
    by Shape-F.Clock found at = absurd cc
    by Shape-F.Reset found at = absurd cc
    by Shape-F.AsyncReset found at = absurd cc

-- and where there is none
pub field_none : (name : ℕ) (base : Component) (slots : List Slot) → find (λ x. x.name.id == name) (fields_in (out-Shape base.part.typ.shape)) ≡ None
    → slots ≡ slots_of_field name base.part.typ base.slots → record { part = base.part; slots = slots } ≡ field_step name base
field_none name base slots none own = λ i. record { part = by (out-Shape base.part.typ.shape) none i; slots = own i }
  where
    by : (s : Shape-F Shape Field FirType) → find (λ x. x.name.id == name) (fields_in s) ≡ None → base.part ≡ field_of_layer name base.part s
    by (Shape-F.Bundle fs) none = ap (field_or_whole base.part) (sym none)
    by (Shape-F.Vector e n) none = refl
    by (Shape-F.Unsigned w) none = refl
    by (Shape-F.Signed w) none = refl
    by Shape-F.Clock none = refl
    by Shape-F.Reset none = refl
    by Shape-F.AsyncReset none = refl

-- what is left behind all fields of a bundle
pub behind_all : (name : ℕ) (typ : FirType) (fs : List Field) (count : ℕ) (slots rest : List Slot) → typ.shape ≡ shape.Bundle fs
    → find (λ x. x.name.id == name) (fields_in (out-Shape typ.shape)) ≡ None → length slots ≤ 2 ^ 64 - 1 → count ≡ min (size typ) (2 ^ 64 - 1) → rest ≡ drop count slots
    → rest ≡ slots_of_field name typ slots
behind_all name typ fs count slots rest is none short counted own =
    let layer : out-Shape typ.shape ≡ Shape-F.Bundle fs = ap out-Shape is ∙ outs-Bundle fs in
    own ∙ ap (λ n. drop n slots) counted ∙ drop_capped (size typ) slots short ∙ ap (λ n. drop n slots) (size-bundle typ fs is)
    ∙ sym (ap (λ s. slots_of_layer name s slots) layer ∙ none_first name fs slots (sym (ap (λ s. find (λ x. x.name.id == name) (fields_in s)) layer) ∙ none))
