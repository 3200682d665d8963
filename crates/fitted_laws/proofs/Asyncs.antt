-- The places of AsyncResets: a node has no variable there, and each has width 1, whatever the rules find elsewhere.
use Rattle.std.proofs.Common.{◌≡◌, ℕ, suc, ◌+◌, Bool, List, [], ◌∷◌, ◌++◌, map, length, take, drop, Option, Some, None, refl, sym, ap, ◌∙◌, subst, arith, append-nil}
use Rattle.std.specs.Prelude.{⊤}
use Rattle.std.specs.List.{flat_map}
use Rattle.std.proofs.lemmas.Grind.{common_steps}
use Rattle.place_text.specs.declared.place.Place.{Place}
use Rattle.fir_types.specs.declared.fir_type.FirType.{FirType, ind-FirType, the_lemmas}
use Rattle.fir_types.specs.declared.fir_type.Shape.{Shape}
use Rattle.fir_types.specs.declared.fir_type.Shape.TheOpen.{Shape-F}
use Rattle.fir_types.specs.declared.fir_type.Shape.TheFolds.{map-Shape}
use Rattle.fir_types.specs.declared.fir_type.Shape.TheViews.{roll-Shape, roll-Field, roll-FirType}
use Rattle.fir_types.specs.declared.fir_type.Shape.TheVariants as shape
use Rattle.fir_types.specs.declared.fir_type.Shape.TheVariants.{rolls-Unsigned, rolls-Signed, rolls-Clock, rolls-Reset, rolls-AsyncReset, rolls-Bundle, rolls-Vector}
use Rattle.fir_types.specs.declared.fir_type.Field.{Field}
use Rattle.fir_types.specs.Equivalence.{Equivalent, SameFields, IsUnsigned, IsSigned, unsigned, signed, clocks, asyncs, vectors, bundles, no_fields, same_field, a_uint, a_sint, a_reset}
use Rattle.prim_ops.specs.declared.widths.Width.{Width}
use Rattle.prim_ops.specs.declared.widths.Width.TheVariants.{Bits}
use Rattle.width_rules.specs.declared.slot.Slot.{Slot}
use Rattle.width_rules.specs.declared.slot.Slot.TheVariants as slot
use Rattle.width_rules.specs.Places.{Spot, one_spot, spots, size, turned, capped, slot_of, is_open, slots_from, node_spots}
use Rattle.width_rules.specs.Layers.{field_spots, node_field_spots}
use Rattle.width_rules.proofs.Spots.{spots-bundle, spots-vector, spots-field, node-bundle, node-vector}
use Rattle.width_rules.proofs.FormulaLemmas.{width-Fixed}
use Rattle.width_fit.specs.Judging.{slot_width}

-- Where a node's place has a width, that is 1, and so is that of the type's own place.
abbrev pub OneSpot : Option ℕ → Option ℕ → Type 0
OneSpot None own = ⊤
OneSpot (Some w) own = (w ≡ 1) × (own ≡ Some 1)

abbrev pub OneSpots : List Spot → List Spot → Type 0
OneSpots [] [] = ⊤
OneSpots [] (x ∷ xs) = ⊥
OneSpots (s ∷ ss) [] = ⊥
OneSpots (s ∷ ss) (x ∷ xs) = OneSpot s.width x.width × OneSpots ss xs

-- the same of the slots of a component, and of widths
abbrev pub OneSlot : Option ℕ → Slot → Type 0
OneSlot None x = ⊤
OneSlot (Some w) x = x ≡ slot.Fixed 1

abbrev pub OneSlots : List Spot → List Slot → Type 0
OneSlots [] [] = ⊤
OneSlots [] (x ∷ xs) = ⊥
OneSlots (s ∷ ss) [] = ⊥
OneSlots (s ∷ ss) (x ∷ xs) = OneSlot s.width x × OneSlots ss xs

abbrev pub OneWidth : Option ℕ → Width → Type 0
OneWidth None x = ⊤
OneWidth (Some w) x = x ≡ Bits 1

abbrev pub OneWidths : List Spot → List Width → Type 0
OneWidths [] [] = ⊤
OneWidths [] (x ∷ xs) = ⊥
OneWidths (s ∷ ss) [] = ⊥
OneWidths (s ∷ ss) (x ∷ xs) = OneWidth s.width x × OneWidths ss xs

-- Types

ones_append : (ss xs ts ys : List Spot) → OneSpots ss xs → OneSpots ts ys → OneSpots (ss ++ ts) (xs ++ ys)
ones_append [] [] ts ys h k = k
ones_append [] (x ∷ xs) ts ys h k = absurd h
ones_append (s ∷ ss) [] ts ys h k = absurd h
ones_append (s ∷ ss) (x ∷ xs) ts ys h k = (h.0, ones_append ss xs ts ys h.1 k)

ones_turned : (b : Bool) (ss xs : List Spot) → OneSpots ss xs → OneSpots (map (turned b) ss) (map (turned b) xs)
ones_turned b [] [] h = tt
ones_turned b [] (x ∷ xs) h = absurd h
ones_turned b (s ∷ ss) [] h = absurd h
ones_turned b (s ∷ ss) (x ∷ xs) h = (h.0, ones_turned b ss xs h.1)

abbrev TypeOnes : FirType → Type 0
TypeOnes t = OneSpots (node_spots t) (spots t)

abbrev FieldOnes : Field → Type 0
FieldOnes f = TypeOnes f.typ

abbrev ShapeOnes : Shape → Type 0
ShapeOnes s = (place : Place) → TypeOnes (record { place = place; shape = s })

node-unsigned : (t : FirType) (w : Option ℕ) → t.shape ≡ shape.Unsigned w → node_spots t ≡ one_spot None
node-unsigned t w e = grind (arith, common_steps, the_lemmas)

node-signed : (t : FirType) (w : Option ℕ) → t.shape ≡ shape.Signed w → node_spots t ≡ one_spot None
node-signed t w e = grind (arith, common_steps, the_lemmas)

node-reset : (t : FirType) → t.shape ≡ shape.Reset → node_spots t ≡ one_spot None
node-reset t e = grind (arith, common_steps, the_lemmas)

pub node-async : (t : FirType) → t.shape ≡ shape.AsyncReset → node_spots t ≡ one_spot (Some 1)
node-async t e = grind (arith, common_steps, the_lemmas)

pub node-clock : (t : FirType) → t.shape ≡ shape.Clock → node_spots t ≡ []
node-clock t e = grind (arith, common_steps, the_lemmas)

node-field : (f : Field) → node_field_spots f ≡ map (turned f.flip) (node_spots f.typ)
node-field f = grind (arith, common_steps, the_lemmas)

spots-unsigned : (t : FirType) (w : Option ℕ) → t.shape ≡ shape.Unsigned w → spots t ≡ one_spot w
spots-unsigned t w e = grind (arith, common_steps, the_lemmas)

spots-signed : (t : FirType) (w : Option ℕ) → t.shape ≡ shape.Signed w → spots t ≡ one_spot w
spots-signed t w e = grind (arith, common_steps, the_lemmas)

spots-reset : (t : FirType) → t.shape ≡ shape.Reset → spots t ≡ one_spot (Some 1)
spots-reset t e = grind (arith, common_steps, the_lemmas)

spots-async : (t : FirType) → t.shape ≡ shape.AsyncReset → spots t ≡ one_spot (Some 1)
spots-async t e = grind (arith, common_steps, the_lemmas)

spots-clock : (t : FirType) → t.shape ≡ shape.Clock → spots t ≡ []
spots-clock t e = grind (arith, common_steps, the_lemmas)

ground_ones : (t : FirType) (ss xs : List Spot) → node_spots t ≡ ss → spots t ≡ xs → OneSpots ss xs → TypeOnes t
ground_ones t ss xs p q h = subst (λ ss. OneSpots ss (spots t)) (sym p) (subst (OneSpots ss) (sym q) h)

fields_ones : (ps : List ((f : Field) × FieldOnes f)) → OneSpots (flat_map node_field_spots (map (λ e. e.0) ps)) (flat_map field_spots (map (λ e. e.0) ps))
fields_ones [] = tt
fields_ones (p ∷ ps) =
    let fs : List Field = map (λ e. e.0) ps in
    let own : OneSpots (node_field_spots p.0) (field_spots p.0) = subst (λ ss. OneSpots ss (field_spots p.0)) (sym (node-field p.0))
    (subst (OneSpots (map (turned p.0.flip) (node_spots p.0.typ))) (sym (spots-field p.0)) (ones_turned p.0.flip (node_spots p.0.typ) (spots p.0.typ) p.1)) in
    ones_append (node_field_spots p.0) (field_spots p.0) (flat_map node_field_spots fs) (flat_map field_spots fs) own (fields_ones ps)

shape_ones : (y : Shape-F ((s : Shape) × ShapeOnes s) ((f : Field) × FieldOnes f) ((t : FirType) × TypeOnes t))
    → ShapeOnes (roll-Shape (map-Shape _ _ _ Shape Field FirType (λ e. e.0) (λ e. e.0) (λ e. e.0) y))
shape_ones (Shape-F.Unsigned w) = subst ShapeOnes (sym (rolls-Unsigned w)) (λ place.
    let t : FirType = record { place = place; shape = shape.Unsigned w } in ground_ones t (one_spot None) (one_spot w) (node-unsigned t w refl) (spots-unsigned t w refl) (tt, tt))
shape_ones (Shape-F.Signed w) = subst ShapeOnes (sym (rolls-Signed w)) (λ place.
    let t : FirType = record { place = place; shape = shape.Signed w } in ground_ones t (one_spot None) (one_spot w) (node-signed t w refl) (spots-signed t w refl) (tt, tt))
shape_ones Shape-F.Clock = subst ShapeOnes (sym rolls-Clock) (λ place.
    let t : FirType = record { place = place; shape = shape.Clock } in ground_ones t [] [] (node-clock t refl) (spots-clock t refl) tt)
shape_ones Shape-F.Reset = subst ShapeOnes (sym rolls-Reset) (λ place.
    let t : FirType = record { place = place; shape = shape.Reset } in ground_ones t (one_spot None) (one_spot (Some 1)) (node-reset t refl) (spots-reset t refl) (tt, tt))
shape_ones Shape-F.AsyncReset = subst ShapeOnes (sym rolls-AsyncReset) (λ place.
    let t : FirType = record { place = place; shape = shape.AsyncReset } in
    ground_ones t (one_spot (Some 1)) (one_spot (Some 1)) (node-async t refl) (spots-async t refl) ((refl, refl), tt))
shape_ones (Shape-F.Bundle ps) = subst ShapeOnes (sym (rolls-Bundle (map (λ e. e.0) ps))) (λ place.
    let fs : List Field = map (λ e. e.0) ps in
    let t : FirType = record { place = place; shape = shape.Bundle (map (λ e. e.0) ps) } in
    ground_ones t (flat_map node_field_spots fs) (flat_map field_spots fs) (node-bundle t fs refl) (spots-bundle t fs refl) (fields_ones ps))
shape_ones (Shape-F.Vector p n) = subst ShapeOnes (sym (rolls-Vector p.0 n)) (λ place.
    let t : FirType = record { place = place; shape = shape.Vector p.0 n } in
    ground_ones t (node_spots p.0) (spots p.0) (node-vector t p.0 n refl) (spots-vector t p.0 n refl) p.1)

-- a node of a type has the type's places, and those of its AsyncResets have width 1
pub one_spots : (t : FirType) → OneSpots (node_spots t) (spots t)
one_spots = ind-FirType ShapeOnes FieldOnes TypeOnes
    (λ x y is. subst (λ z. ShapeOnes (roll-Shape z)) is (shape_ones y))
    (λ x y is. subst (λ z. FieldOnes (roll-Field z)) is y.typ.1)
    (λ x y is. subst (λ z. TypeOnes (roll-FirType z)) is (y.shape.1 y.place))

spots_counted : (ss xs : List Spot) → OneSpots ss xs → length ss ≡ length xs
spots_counted [] [] h = refl
spots_counted [] (x ∷ xs) h = absurd h
spots_counted (s ∷ ss) [] h = absurd h
spots_counted (s ∷ ss) (x ∷ xs) h = ap suc (spots_counted ss xs h.1)

pub node_counted : (t : FirType) → length (node_spots t) ≡ size t
node_counted t = spots_counted (node_spots t) (spots t) (one_spots t)

-- Slots

capped_one : capped 1 ≡ 1
capped_one = omega arith

one_slot : (n : ℕ) (given own : Option ℕ) → OneSpot given own → OneSlot given (slot_of n own)
one_slot n None own h = tt
one_slot n (Some w) own h = ap (slot_of n) h.1 ∙ ap slot.Fixed capped_one

given_slot : (n : ℕ) (given own : Option ℕ) → OneSpot given own → OneSlot given (slot_of n given)
given_slot n None own h = tt
given_slot n (Some w) own h = ap (λ k. slot.Fixed (capped k)) h.0 ∙ ap slot.Fixed capped_one

from_spots : (n : ℕ) (ss xs : List Spot) → OneSpots ss xs → OneSlots ss (slots_from n xs)
from_spots n [] [] h = tt
from_spots n [] (x ∷ xs) h = absurd h
from_spots n (s ∷ ss) [] h = absurd h
from_spots n (s ∷ ss) (x ∷ xs) h = (one_slot n s.width x.width h.0, from_spots (n + is_open x.width) ss xs h.1)

from_own : (n : ℕ) (ss xs : List Spot) → OneSpots ss xs → OneSlots ss (slots_from n ss)
from_own n [] [] h = tt
from_own n [] (x ∷ xs) h = absurd h
from_own n (s ∷ ss) [] h = absurd h
from_own n (s ∷ ss) (x ∷ xs) h = (given_slot n s.width x.width h.0, from_own (n + is_open s.width) ss xs h.1)

-- what is declared with a type, and a node
pub slots_one : (n : ℕ) (t : FirType) → OneSlots (node_spots t) (slots_from n (spots t))
slots_one n t = from_spots n (node_spots t) (spots t) (one_spots t)

pub node_slots_one : (n : ℕ) (t : FirType) → OneSlots (node_spots t) (slots_from n (node_spots t))
node_slots_one n t = from_own n (node_spots t) (spots t) (one_spots t)

fixed_slot : (given : Option ℕ) → OneSlot given (slot.Fixed 1)
fixed_slot None = tt
fixed_slot (Some w) = refl

-- a mask has ones everywhere
pub fixed_one : (ss xs ys : List Spot) → OneSpots ss ys → length xs ≡ length ys → OneSlots ss (map (λ (spot : Spot). slot.Fixed 1) xs)
fixed_one [] [] [] h e = tt
fixed_one [] (x ∷ xs) [] h e = absurd (omega (arith, e))
fixed_one [] xs (y ∷ ys) h e = absurd h
fixed_one (s ∷ ss) xs [] h e = absurd h
fixed_one (s ∷ ss) [] (y ∷ ys) h e = absurd (omega (arith, e))
fixed_one (s ∷ ss) (x ∷ xs) (y ∷ ys) h e = (fixed_slot s.width, fixed_one ss xs ys h.1 (omega (arith, e)))

pub one_append : (ss ts : List Spot) (xs ys : List Slot) → OneSlots ss xs → OneSlots ts ys → OneSlots (ss ++ ts) (xs ++ ys)
one_append [] ts [] ys h k = k
one_append [] ts (x ∷ xs) ys h k = absurd h
one_append (s ∷ ss) ts [] ys h k = absurd h
one_append (s ∷ ss) ts (x ∷ xs) ys h k = (h.0, one_append ss ts xs ys h.1 k)

pub one_turned : (b : Bool) (ss : List Spot) (xs : List Slot) → OneSlots ss xs → OneSlots (map (turned b) ss) xs
one_turned b [] [] h = tt
one_turned b [] (x ∷ xs) h = absurd h
one_turned b (s ∷ ss) [] h = absurd h
one_turned b (s ∷ ss) (x ∷ xs) h = (h.0, one_turned b ss xs h.1)

one_back : (b : Bool) (ss : List Spot) (xs : List Slot) → OneSlots (map (turned b) ss) xs → OneSlots ss xs
one_back b [] [] h = tt
one_back b [] (x ∷ xs) h = absurd h
one_back b (s ∷ ss) [] h = absurd h
one_back b (s ∷ ss) (x ∷ xs) h = (h.0, one_back b ss xs h.1)

one_front : (ss ts : List Spot) (xs : List Slot) → OneSlots (ss ++ ts) xs → OneSlots ss (take (length ss) xs)
one_front [] ts xs h = tt
one_front (s ∷ ss) ts [] h = absurd h
one_front (s ∷ ss) ts (x ∷ xs) h = (h.0, one_front ss ts xs h.1)

one_rest : (ss ts : List Spot) (xs : List Slot) → OneSlots (ss ++ ts) xs → OneSlots ts (drop (length ss) xs)
one_rest [] ts xs h = h
one_rest (s ∷ ss) ts [] h = absurd h
one_rest (s ∷ ss) ts (x ∷ xs) h = one_rest ss ts xs h.1

length_turned : (b : Bool) (ss : List Spot) → length (map (turned b) ss) ≡ length ss
length_turned b [] = refl
length_turned b (s ∷ ss) = ap suc (length_turned b ss)

pub field_counted : (f : Field) → length (node_field_spots f) ≡ size f.typ
field_counted f = ap length (node-field f) ∙ length_turned f.flip (node_spots f.typ) ∙ node_counted f.typ

-- the slots of a field, and of those behind it
pub field_one : (f : Field) (fs : List Field) (xs : List Slot) → OneSlots (flat_map node_field_spots (f ∷ fs)) xs → OneSlots (node_spots f.typ) (take (size f.typ) xs)
field_one f fs xs h =
    let own : OneSlots (node_field_spots f) (take (size f.typ) xs) = subst (λ n. OneSlots (node_field_spots f) (take n xs)) (field_counted f) (one_front (node_field_spots f) (flat_map node_field_spots fs) xs h) in
    one_back f.flip (node_spots f.typ) (take (size f.typ) xs) (subst (λ ss. OneSlots ss (take (size f.typ) xs)) (node-field f) own)

pub fields_one : (f : Field) (fs : List Field) (xs : List Slot) → OneSlots (flat_map node_field_spots (f ∷ fs)) xs → OneSlots (flat_map node_field_spots fs) (drop (size f.typ) xs)
fields_one f fs xs h = subst (λ n. OneSlots (flat_map node_field_spots fs) (drop n xs)) (field_counted f) (one_rest (node_field_spots f) (flat_map node_field_spots fs) xs h)

-- one more field
pub with_field : (f : Field) (fs : List Field) (xs ys : List Slot) → OneSlots (node_spots f.typ) xs → OneSlots (flat_map node_field_spots fs) ys → OneSlots (flat_map node_field_spots (f ∷ fs)) (xs ++ ys)
with_field f fs xs ys h k =
    one_append (node_field_spots f) (flat_map node_field_spots fs) xs ys (subst (λ ss. OneSlots ss xs) (sym (node-field f)) (one_turned f.flip (node_spots f.typ) xs h)) k

pub last_field : (f : Field) (xs : List Slot) → OneSlots (node_spots f.typ) xs → OneSlots (flat_map node_field_spots (f ∷ [])) xs
last_field f xs h = subst (OneSlots (flat_map node_field_spots (f ∷ []))) (append-nil xs) (with_field f [] xs [] h tt)

-- Widths

one_width : (ws : List Width) (given : Option ℕ) (x : Slot) → OneSlot given x → OneWidth given (slot_width ws x)
one_width ws None x h = tt
one_width ws (Some w) x h = ap (slot_width ws) h ∙ width-Fixed 1 ws

pub one_widths : (ws : List Width) (ss : List Spot) (xs : List Slot) → OneSlots ss xs → OneWidths ss (map (slot_width ws) xs)
one_widths ws [] [] h = tt
one_widths ws [] (x ∷ xs) h = absurd h
one_widths ws (s ∷ ss) [] h = absurd h
one_widths ws (s ∷ ss) (x ∷ xs) h = (one_width ws s.width x h.0, one_widths ws ss xs h.1)

-- Kinds

-- numbers have variables in nodes
pub unsigned_node : {t : FirType} → IsUnsigned t → node_spots t ≡ one_spot None
unsigned_node {t} (a_uint w e) = node-unsigned t w e
unsigned_node {t} (a_reset e) = node-reset t e

pub signed_node : {t : FirType} → IsSigned t → node_spots t ≡ one_spot None
signed_node {t} (a_sint w e) = node-signed t w e

-- equivalent types have their AsyncResets at the same places
abbrev pub given_in : List Spot → List (Option ℕ)
given_in ss = map (λ (s : Spot). s.width) ss

given_append : (ss ts : List Spot) → given_in (ss ++ ts) ≡ given_in ss ++ given_in ts
given_append [] ts = refl
given_append (s ∷ ss) ts = ap (λ l. s.width ∷ l) (given_append ss ts)

given_turned : (b : Bool) (ss : List Spot) → given_in (map (turned b) ss) ≡ given_in ss
given_turned b [] = refl
given_turned b (s ∷ ss) = ap (λ l. s.width ∷ l) (given_turned b ss)

given_field : (f : Field) → given_in (node_field_spots f) ≡ given_in (node_spots f.typ)
given_field f = ap given_in (node-field f) ∙ given_turned f.flip (node_spots f.typ)

mutual
  pub given_alike : {a b : FirType} → Equivalent a b → given_in (node_spots a) ≡ given_in (node_spots b)
  given_alike (unsigned u v) = ap given_in (unsigned_node u) ∙ sym (ap given_in (unsigned_node v))
  given_alike (signed u v) = ap given_in (signed_node u) ∙ sym (ap given_in (signed_node v))
  given_alike {a} {b} (clocks u v) = ap given_in (node-clock a u) ∙ sym (ap given_in (node-clock b v))
  given_alike {a} {b} (asyncs u v) = ap given_in (node-async a u) ∙ sym (ap given_in (node-async b v))
  given_alike {a} {b} (vectors e o n u v q) = ap given_in (node-vector a e n u) ∙ given_alike q ∙ sym (ap given_in (node-vector b o n v))
  given_alike {a} {b} (bundles fs gs u v q) = ap given_in (node-bundle a fs u) ∙ fields_given_alike q ∙ sym (ap given_in (node-bundle b gs v))

  fields_given_alike : {fs gs : List Field} → SameFields fs gs → given_in (flat_map node_field_spots fs) ≡ given_in (flat_map node_field_spots gs)
  fields_given_alike no_fields = refl
  fields_given_alike (same_field {field = f} {other = g} {rest = fs} {others = gs} a b q rest) =
      given_append (node_field_spots f) (flat_map node_field_spots fs)
      ∙ ap (λ l. l ++ given_in (flat_map node_field_spots fs)) (given_field f ∙ given_alike q ∙ sym (given_field g))
      ∙ ap (λ l. given_in (node_field_spots g) ++ l) (fields_given_alike rest)
      ∙ sym (given_append (node_field_spots g) (flat_map node_field_spots gs))
