-- The places of bundles and vectors.
use Rattle.std.proofs.Common.{◌≡◌, ℕ, ◌+◌, ◌<◌, Bool, true, false, not, List, [], ◌∷◌, ◌++◌, map, sum, length, take, get_or, if◌then◌else◌, refl, sym, ap, ap₂, ◌∙◌, arith, append_assoc, length-append}
use Rattle.std.specs.List.{flat_map}
use Rattle.std.specs.Bool.{beq}
use Rattle.std.proofs.lemmas.Grind.{common_steps}
use Rattle.std.proofs.lemmas.List.{map-append, length-map}
use Rattle.std.proofs.lemmas.List.Folds.{flat_map-map}
use Rattle.fir_types.specs.declared.fir_type.FirType.{FirType, the_lemmas}
use Rattle.fir_types.specs.declared.fir_type.Shape.TheVariants as shape
use Rattle.fir_types.specs.declared.fir_type.Field.{Field}
use Rattle.fir_types.specs.Bundles.{mask_of, mask_of_field}
use Rattle.fir_types.specs.Spots.{Spot, spots, size, turned, field_spots, field_size, flip_of, flips_under}

pub spots-bundle : (t : FirType) (fs : List Field) → t.shape ≡ shape.Bundle fs → spots t ≡ flat_map field_spots fs
spots-bundle t fs e = grind (arith, common_steps, the_lemmas, flat_map-map)

pub spots-vector : (t e : FirType) (n : ℕ) → t.shape ≡ shape.Vector e n → spots t ≡ spots e
spots-vector t e n h = grind (arith, common_steps, the_lemmas)

pub spots-field : (f : Field) → field_spots f ≡ map (turned f.flip) (spots f.typ)
spots-field f = grind (arith, common_steps, the_lemmas)

-- one field more of a list
pub fields_next : {X : Type 0} (g : Field → List X) (fs : List Field) (i : ℕ) (f : Field) → i < length fs → f ≡ get_or fs i f → flat_map g (take (i + 1) fs) ≡ flat_map g (take i fs) ++ g f
fields_next g fs i f lt is = grind (arith, common_steps)

-- Sizes

pub size-field : (f : Field) → field_size f ≡ size f.typ
size-field f = ap length (spots-field f) ∙ length-map (spots f.typ) (turned f.flip)

size-fields : (fs : List Field) → length (flat_map field_spots fs) ≡ sum (map field_size fs)
size-fields [] = refl
size-fields (f ∷ fs) = let h = length-append (field_spots f) (flat_map field_spots fs) in grind (arith, common_steps, h, size-fields fs)

pub size-bundle : (t : FirType) (fs : List Field) → t.shape ≡ shape.Bundle fs → size t ≡ sum (map field_size fs)
size-bundle t fs e = ap length (spots-bundle t fs e) ∙ size-fields fs

-- Flips

xor_is : (a b : Bool) → not (beq a b) ≡ (if a then not b else b)
xor_is true true = refl
xor_is true false = refl
xor_is false true = refl
xor_is false false = refl

flips_twice : (a b : Bool) (ss : List Spot) → map (flip_of (not (beq a b))) ss ≡ map (flip_of a) (map (turned b) ss)
flips_twice a b [] = refl
flips_twice a b (s ∷ ss) = ap₂ (λ x xs. x ∷ xs) (one a b s.flip) (flips_twice a b ss)
  where
    one : (a b c : Bool) → (if not (beq a b) then not c else c) ≡ (if a then not (if b then not c else c) else if b then not c else c)
    one true true true = refl
    one true true false = refl
    one true false c = refl
    one false true c = refl
    one false false c = refl

pub flips_more : (fs : List Field) (i : ℕ) (f : Field) (flip : Bool) (before listed after : List Bool) → i < length fs → f ≡ get_or fs i f
    → listed ≡ before ++ map (flip_of flip) (flat_map field_spots (take i fs)) → after ≡ listed ++ flips_under (not (beq flip f.flip)) f.typ
    → after ≡ before ++ map (flip_of flip) (flat_map field_spots (take (i + 1) fs))
flips_more fs i f flip before listed after lt is h a =
    let one : flips_under (not (beq flip f.flip)) f.typ ≡ map (flip_of flip) (field_spots f) = flips_twice flip f.flip (spots f.typ) ∙ ap (map (flip_of flip)) (sym (spots-field f)) in
    let next : map (flip_of flip) (flat_map field_spots (take (i + 1) fs)) ≡ map (flip_of flip) (flat_map field_spots (take i fs)) ++ map (flip_of flip) (field_spots f)
    = ap (map (flip_of flip)) (fields_next field_spots fs i f lt is) ∙ map-append (flip_of flip) (flat_map field_spots (take i fs)) (field_spots f) in
    a ∙ ap₂ (λ x y. x ++ y) h one ∙ append_assoc before _ _ ∙ ap (λ x. before ++ x) (sym next)

-- Masks

pub mask-bundle : (t : FirType) (fs : List Field) → t.shape ≡ shape.Bundle fs → (mask_of t).shape ≡ shape.Bundle (map mask_of_field fs)
mask-bundle t fs e = grind (arith, common_steps, the_lemmas)

pub mask-field : (f : Field) → (mask_of_field f).typ ≡ mask_of f.typ
mask-field f = grind (arith, common_steps, the_lemmas)

mask-vector : (t e : FirType) (n : ℕ) → t.shape ≡ shape.Vector e n → (mask_of t).shape ≡ shape.Vector (mask_of e) n
mask-vector t e n h = grind (arith, common_steps, the_lemmas)

pub masks-vector : (t e : FirType) (n : ℕ) → t.shape ≡ shape.Vector e n → spots (mask_of t) ≡ spots (mask_of e)
masks-vector t e n h = spots-vector (mask_of t) (mask_of e) n (mask-vector t e n h)
