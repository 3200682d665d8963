-- The widths of the places of bundles.
use Rattle.std.proofs.Common.{◌≡◌, ℕ, zero, suc, ◌+◌, ◌<◌, Bool, List, [], ◌∷◌, ◌++◌, map, length, take, get_or, refl, sym, ap, ap₂, ◌∙◌, subst, arith, append_assoc, append-nil, length-append}
use Rattle.std.specs.List.{flat_map}
use Rattle.std.proofs.lemmas.Grind.{common_steps}
use Rattle.std.proofs.lemmas.List.{map-append, length-replicate, replicate-append-replicate}
use Rattle.std.proofs.lemmas.List.Folds.{flat_map-map}
use Rattle.place_text.specs.declared.place.Place.{Place}
use Rattle.fir_types.specs.declared.fir_type.FirType.{FirType, the_lemmas}
use Rattle.fir_types.specs.declared.fir_type.Shape.TheVariants as shape
use Rattle.fir_types.specs.declared.fir_type.Field.{Field}
use Rattle.fir_types.specs.Bundles.{mask_of, mask_of_field}
pub use Rattle.fir_types.proofs.SpotLayers.{spots-bundle, spots-vector, spots-field}
use Rattle.fir_types.proofs.SpotLayers.{fields_next, mask-bundle, mask-field}
use Rattle.width_rules.specs.declared.slot.Slot.{Slot}
use Rattle.width_rules.specs.declared.slot.Slot.TheVariants as slot
use Rattle.width_rules.specs.Places.{Spot, spots, turned, slot_of, is_open, slots_from, open_spots, node_spots}
use Rattle.width_rules.specs.Circuits.{places_for}
use Rattle.width_rules.specs.Layers.{field_spots, node_field_spots, one_bit, mask_widths, mask_field_widths, Adds}

-- Masks

masks_by_fields : (fs : List Field) → map one_bit (flat_map field_spots (map mask_of_field fs)) ≡ flat_map mask_field_widths fs
masks_by_fields [] = refl
masks_by_fields (f ∷ fs) = map-append one_bit (field_spots (mask_of_field f)) (flat_map field_spots (map mask_of_field fs)) ∙ ap (λ x. mask_field_widths f ++ x) (masks_by_fields fs)

pub masks-bundle : (t : FirType) (fs : List Field) → t.shape ≡ shape.Bundle fs → mask_widths t ≡ flat_map mask_field_widths fs
masks-bundle t fs e = ap (map one_bit) (spots-bundle (mask_of t) (map mask_of_field fs) (mask-bundle t fs e)) ∙ masks_by_fields fs

one_bits : (b : Bool) (ss : List Spot) → map one_bit (map (turned b) ss) ≡ map one_bit ss
one_bits b [] = refl
one_bits b (s ∷ ss) = ap (λ x. slot.Fixed 1 ∷ x) (one_bits b ss)

pub masks-field : (f : Field) → mask_field_widths f ≡ mask_widths f.typ
masks-field f = ap (map one_bit) (spots-field (mask_of_field f)) ∙ one_bits (mask_of_field f).flip (spots (mask_of_field f).typ) ∙ ap (λ t. map one_bit (spots t)) (mask-field f)

pub masks_more : (fs : List Field) (i : ℕ) (f : Field) (before listed after : List Slot) → i < length fs → f ≡ get_or fs i f
    → listed ≡ before ++ flat_map mask_field_widths (take i fs) → after ≡ listed ++ mask_widths f.typ → after ≡ before ++ flat_map mask_field_widths (take (i + 1) fs)
masks_more fs i f before listed after lt is h a =
    a ∙ ap₂ (λ x y. x ++ y) h (sym (masks-field f)) ∙ append_assoc before _ _ ∙ ap (λ x. before ++ x) (sym (fields_next mask_field_widths fs i f lt is))

-- Widths with variables

pub slots_from-append : (n : ℕ) (xs ys : List Spot) → slots_from n (xs ++ ys) ≡ slots_from n xs ++ slots_from (n + open_spots xs) ys
slots_from-append n [] ys = ap (λ k. slots_from k ys) (omega arith)
slots_from-append n (x ∷ xs) ys = ap (λ l. slot_of n x.width ∷ l) (slots_from-append (n + is_open x.width) xs ys ∙ ap (λ k. slots_from (n + is_open x.width) xs ++ slots_from k ys) (omega arith))

pub open_spots-append : (xs ys : List Spot) → open_spots (xs ++ ys) ≡ open_spots xs + open_spots ys
open_spots-append [] ys = omega arith
open_spots-append (x ∷ xs) ys = ap (λ n. is_open x.width + n) (open_spots-append xs ys) ∙ omega arith

slots_turned : (n : ℕ) (b : Bool) (ss : List Spot) → slots_from n (map (turned b) ss) ≡ slots_from n ss
slots_turned n b [] = refl
slots_turned n b (s ∷ ss) = ap (λ l. slot_of n s.width ∷ l) (slots_turned (n + is_open s.width) b ss)

open_turned : (b : Bool) (ss : List Spot) → open_spots (map (turned b) ss) ≡ open_spots ss
open_turned b [] = refl
open_turned b (s ∷ ss) = ap (λ n. is_open s.width + n) (open_turned b ss)

pub adds_none : (place : Place) (slots : List Slot) (places : List Place) → Adds place [] slots slots places places
adds_none place slots places = record { slots = sym (append-nil slots); places = sym (append-nil places) }

places_after : (place : Place) {ss : List Spot} {a b : List Slot} {p q : List Place} → Adds place ss a b p q → length q ≡ length p + open_spots ss
places_after place {ss} {a} {b} {p} h = ap length h.places ∙ length-append p (places_for place (open_spots ss)) ∙ ap (λ n. length p + n) (length-replicate (open_spots ss) place)

pub adds_then : (place : Place) {xs ys : List Spot} {a b c : List Slot} {p q r : List Place} → Adds place xs a b p q → Adds place ys b c q r → Adds place (xs ++ ys) a c p r
adds_then place {xs} {ys} {a} {b} {c} {p} {q} h k = record {
  slots = k.slots ∙ ap₂ (λ l n. l ++ slots_from n ys) h.slots (places_after place h) ∙ append_assoc a _ _ ∙ ap (λ l. a ++ l) (sym (slots_from-append (length p) xs ys));
  places = k.places ∙ ap (λ l. l ++ places_for place (open_spots ys)) h.places ∙ append_assoc p _ _
      ∙ ap (λ l. p ++ l) (replicate-append-replicate (open_spots xs) (open_spots ys) place ∙ ap (places_for place) (sym (open_spots-append xs ys)));
}

adds_turned : (place : Place) (f : Bool) {ss : List Spot} {a b : List Slot} {p q : List Place} → Adds place ss a b p q → Adds place (map (turned f) ss) a b p q
adds_turned place f {ss} {a} {b} {p} h = record {
  slots = h.slots ∙ ap (λ l. a ++ l) (sym (slots_turned (length p) f ss));
  places = h.places ∙ ap (λ n. p ++ places_for place n) (sym (open_turned f ss));
}

pub adds_more : (place : Place) (fs : List Field) (i : ℕ) (f : Field) {a b c : List Slot} {p q r : List Place} → i < length fs → f ≡ get_or fs i f
    → Adds place (flat_map field_spots (take i fs)) a b p q → Adds place (spots f.typ) b c q r → Adds place (flat_map field_spots (take (i + 1) fs)) a c p r
adds_more place fs i f {a} {b} {c} {p} {q} {r} lt is h k =
    subst (λ ss. Adds place ss a c p r) (sym (fields_next field_spots fs i f lt is))
    (adds_then place h (subst (λ ss. Adds place ss b c q r) (sym (spots-field f)) (adds_turned place f.flip k)))

-- Nodes

pub node-bundle : (t : FirType) (fs : List Field) → t.shape ≡ shape.Bundle fs → node_spots t ≡ flat_map node_field_spots fs
node-bundle t fs e = grind (arith, common_steps, the_lemmas, flat_map-map)

pub node-vector : (t e : FirType) (n : ℕ) → t.shape ≡ shape.Vector e n → node_spots t ≡ node_spots e
node-vector t e n h = grind (arith, common_steps, the_lemmas)

node-field : (f : Field) → node_field_spots f ≡ map (turned f.flip) (node_spots f.typ)
node-field f = grind (arith, common_steps, the_lemmas)

pub node_adds_more : (place : Place) (fs : List Field) (i : ℕ) (f : Field) {a b c : List Slot} {p q r : List Place} → i < length fs → f ≡ get_or fs i f
    → Adds place (flat_map node_field_spots (take i fs)) a b p q → Adds place (node_spots f.typ) b c q r → Adds place (flat_map node_field_spots (take (i + 1) fs)) a c p r
node_adds_more place fs i f {a} {b} {c} {p} {q} {r} lt is h k =
    subst (λ ss. Adds place ss a c p r) (sym (fields_next node_field_spots fs i f lt is))
    (adds_then place h (subst (λ ss. Adds place ss b c q r) (sym (node-field f)) (adds_turned place f.flip k)))
