-- What the definitions say of types by their shapes.
use Rattle.std.proofs.Common.{arith, ◌≡◌, ℕ, zero, suc, ◌+◌, ◌<◌, Bool, true, false, not, ◌||◌, ◌&&◌, List, [], ◌∷◌, ◌++◌, map, take, drop, length, get_or, Option, Some, None, refl, sym, ap, ap₂, ◌∙◌, subst, nat_eq, if◌then◌else◌, append_assoc, append-nil}
use Rattle.std.proofs.lemmas.Grind.{common_steps}
use Rattle.std.specs.Prelude.{flat_map, nat_lt}
use Rattle.std.specs.Bool.{beq}
use Rattle.std.proofs.lemmas.List.{map-append, take_more}
use Rattle.std.proofs.lemmas.List.Folds.{flat_map-map}
use Rattle.std.proofs.lemmas.Grind.{flat_map-append}
use Rattle.fir_types.specs.declared.fir_type.FirType.{FirType, the_lemmas}
use Rattle.fir_types.specs.declared.fir_type.Shape.{Shape}
use Rattle.fir_types.specs.declared.fir_type.Shape.TheOpen.{Shape-F}
use Rattle.fir_types.specs.declared.fir_type.Shape.TheVariants as shape
use Rattle.fir_types.specs.declared.fir_type.Shape.TheVariants.{outs-Bundle, outs-Vector}
use Rattle.fir_types.specs.declared.fir_type.Shape.TheViews.{out-Shape}
use Rattle.fir_types.specs.declared.fir_type.Field.{Field}
use Rattle.reset_search.specs.declared.ground.Ground.{Ground}
use Rattle.reset_search.specs.declared.ground.Word.TheVariants.{OfUint, OfSint, OfReset, OfAsync}
use Rattle.reset_search.specs.Grounds.{grounds, turned, within, one, are_alike, is_one_bit_or_uint, is_sint, is_clock, bundle_takes, vector_takes, all_take, same_flip}
use Rattle.reset_resolution.specs.Layers.{seen, field_grounds, field_alike, is_uint_like}

-- Ground places

pub grounds-bundle : (t : FirType) (fields : List Field) → t.shape ≡ shape.Bundle fields → grounds t ≡ flat_map field_grounds fields
grounds-bundle t fields e = grind (arith, common_steps, the_lemmas, flat_map-map)

pub grounds-vector : (t element : FirType) (n : ℕ) → t.shape ≡ shape.Vector element n → grounds t ≡ map (within n) (grounds element)
grounds-vector t element n e = grind (arith, common_steps, the_lemmas)

pub grounds-field : (f : Field) → field_grounds f ≡ map (turned f.flip) (grounds f.typ)
grounds-field f = grind (arith, common_steps, the_lemmas)

pub grounds-uint : (t : FirType) (w : Option ℕ) → t.shape ≡ shape.Unsigned w → grounds t ≡ one OfUint
grounds-uint t w e = grind (arith, common_steps, the_lemmas)

pub grounds-sint : (t : FirType) (w : Option ℕ) → t.shape ≡ shape.Signed w → grounds t ≡ one OfSint
grounds-sint t w e = grind (arith, common_steps, the_lemmas)

pub grounds-clock : (t : FirType) → t.shape ≡ shape.Clock → grounds t ≡ []
grounds-clock t e = grind (arith, common_steps, the_lemmas)

pub grounds-reset : (t : FirType) → t.shape ≡ shape.Reset → grounds t ≡ one OfReset
grounds-reset t e = grind (arith, common_steps, the_lemmas)

pub grounds-async : (t : FirType) → t.shape ≡ shape.AsyncReset → grounds t ≡ one OfAsync
grounds-async t e = grind (arith, common_steps, the_lemmas)

-- inside a vector
seen_in : (flip held : Bool) (n : ℕ) (after : Bool) (g : Ground) → after ≡ (held && nat_lt 0 n) → seen flip held (within n g) ≡ seen flip after g
seen_in flip held zero after g e = grind (arith, common_steps)
seen_in flip held (suc n) after g e = grind (arith, common_steps)

pub seen_within : (flip held : Bool) (n : ℕ) (after : Bool) (gs : List Ground) → after ≡ (held && nat_lt 0 n) → map (seen flip held) (map (within n) gs) ≡ map (seen flip after) gs
seen_within flip held n after [] e = refl
seen_within flip held n after (g ∷ gs) e = ap₂ (λ x xs. x ∷ xs) (seen_in flip held n after g e) (seen_within flip held n after gs e)

-- in a field
seen_once : (flip own held : Bool) (after : Bool) (g : Ground) → after ≡ (if flip then not own else own) → seen flip held (turned own g) ≡ seen after held g
seen_once true true held after g e = (λ i. record { word = g.word; flip = turn g.flip i; leaf = held && g.leaf }) ∙ ap (λ b. seen b held g) (sym e)
  where
    turn : (b : Bool) → not (not b) ≡ b
    turn true = refl
    turn false = refl
seen_once true false held after g e = ap (λ b. seen b held g) (sym e)
seen_once false true held after g e = ap (λ b. seen b held g) (sym e)
seen_once false false held after g e = ap (λ b. seen b held g) (sym e)

pub seen_turned : (flip own held after : Bool) (gs : List Ground) → after ≡ (if flip then not own else own) → map (seen flip held) (map (turned own) gs) ≡ map (seen after held) gs
seen_turned flip own held after [] e = refl
seen_turned flip own held after (g ∷ gs) e = ap₂ (λ x xs. x ∷ xs) (seen_once flip own held after g e) (seen_turned flip own held after gs e)

pub seen_plain : (gs : List Ground) → map (seen false true) gs ≡ gs
seen_plain [] = refl
seen_plain (g ∷ gs) = ap (λ xs. g ∷ xs) (seen_plain gs)

differ : (a b : Bool) → not (beq a b) ≡ (if a then not b else b)
differ true true = refl
differ true false = refl
differ false true = refl
differ false false = refl

-- one field more
pub grounds_more : (fields : List Field) (i : ℕ) (f : Field) (flip held after : Bool) (from to to' : List Ground) → i < length fields → f ≡ get_or fields i f
    → after ≡ not (beq flip f.flip) → to ≡ from ++ map (seen flip held) (flat_map field_grounds (take i fields)) → to' ≡ to ++ map (seen after held) (grounds f.typ)
    → to' ≡ from ++ map (seen flip held) (flat_map field_grounds (take (i + 1) fields))
grounds_more fields i f flip held after from to to' lt is turns h k =
    let front : List Ground = flat_map field_grounds (take i fields) in
    let own : map (seen flip held) (field_grounds f) ≡ map (seen after held) (grounds f.typ)
    = ap (map (seen flip held)) (grounds-field f) ∙ seen_turned flip f.flip held after (grounds f.typ) (turns ∙ differ flip f.flip) in
    let next : flat_map field_grounds (take (i + 1) fields) ≡ front ++ field_grounds f
    = ap (flat_map field_grounds) (take_more fields i f lt ∙ ap (λ y. take i fields ++ y ∷ []) (sym is)) ∙ flat_map-append field_grounds (take i fields) (f ∷ []) ∙ ap (λ l. front ++ l) (append-nil (field_grounds f)) in
    k ∙ ap (λ l. l ++ map (seen after held) (grounds f.typ)) h ∙ append_assoc from (map (seen flip held) front) _
    ∙ ap (λ l. from ++ (map (seen flip held) front ++ l)) (sym own) ∙ ap (λ l. from ++ l) (sym (ap (map (seen flip held)) next ∙ map-append (seen flip held) front (field_grounds f)))

-- Alike types

pub alike-uint : (t other : FirType) (w : Option ℕ) → t.shape ≡ shape.Unsigned w → are_alike t other ≡ is_uint_like other
alike-uint t other w e = grind (arith, common_steps, the_lemmas)

pub alike-reset : (t other : FirType) → t.shape ≡ shape.Reset → are_alike t other ≡ is_uint_like other
alike-reset t other e = grind (arith, common_steps, the_lemmas)

pub alike-async : (t other : FirType) → t.shape ≡ shape.AsyncReset → are_alike t other ≡ is_uint_like other
alike-async t other e = grind (arith, common_steps, the_lemmas)

pub alike-sint : (t other : FirType) (w : Option ℕ) → t.shape ≡ shape.Signed w → are_alike t other ≡ is_sint (out-Shape other.shape)
alike-sint t other w e = grind (arith, common_steps, the_lemmas)

pub alike-clock : (t other : FirType) → t.shape ≡ shape.Clock → are_alike t other ≡ is_clock (out-Shape other.shape)
alike-clock t other e = grind (arith, common_steps, the_lemmas)

pub alike-bundle : (t other : FirType) (fields : List Field) → t.shape ≡ shape.Bundle fields → are_alike t other ≡ bundle_takes (map field_alike fields) (out-Shape other.shape)
alike-bundle t other fields e = grind (arith, common_steps, the_lemmas)

pub alike-vector : (t other element : FirType) (n : ℕ) → t.shape ≡ shape.Vector element n → are_alike t other ≡ vector_takes (are_alike element) n (out-Shape other.shape)
alike-vector t other element n e = grind (arith, common_steps, the_lemmas)

pub alike-field : (f other : Field) → field_alike f other ≡ (nat_eq f.name.id other.name.id && (same_flip f.flip other.flip && are_alike f.typ other.typ))
alike-field f other = grind (arith, common_steps, the_lemmas)

pub uint-like-bundle : (t : FirType) (fields : List Field) → t.shape ≡ shape.Bundle fields → is_uint_like t ≡ false
uint-like-bundle t fields e = grind (arith, common_steps, the_lemmas)

-- of a bundle another one with these fields
pub alike-bundles : (t other : FirType) (fields others : List Field) → t.shape ≡ shape.Bundle fields → other.shape ≡ shape.Bundle others
    → are_alike t other ≡ all_take (map field_alike fields) others
alike-bundles t other fields others e f = alike-bundle t other fields e ∙ ap (bundle_takes (map field_alike fields)) (ap out-Shape f ∙ outs-Bundle others)

pub alike-vectors : (t other element inner : FirType) (n m : ℕ) → t.shape ≡ shape.Vector element n → other.shape ≡ shape.Vector inner m
    → are_alike t other ≡ (nat_eq n m && are_alike element inner)
alike-vectors t other element inner n m e f = alike-vector t other element n e ∙ ap (vector_takes (are_alike element) n) (ap out-Shape f ∙ outs-Vector inner m)

pub takes_none : (f : Field) (fields : List Field) → all_take (map field_alike (f ∷ fields)) [] ≡ false
takes_none f fields = refl

pub alike_next : (fields others : List Field) (i : ℕ) (f : Field) (rest more : List Field) (o : Field) → i < length fields → f ≡ get_or fields i f → rest ≡ o ∷ more
    → all_take (map field_alike (drop i fields)) rest ≡ (field_alike f o && all_take (map field_alike (drop (i + 1) fields)) more)
alike_next [] others i f rest more o lt is r = absurd (omega arith)
alike_next (x ∷ xs) others zero f rest more o lt is r = ap (all_take (map field_alike (x ∷ xs))) r ∙ ap (λ y. field_alike y o && all_take (map field_alike xs) more) (sym is)
alike_next (x ∷ xs) others (suc i) f rest more o lt is r =
    let e : suc (i + 1) ≡ suc i + 1 = omega arith in
    alike_next xs others i f rest more o (omega (arith, lt)) is r ∙ ap (λ k. field_alike f o && all_take (map field_alike (drop k (x ∷ xs))) more) e

pub alike_none : (fields : List Field) (i : ℕ) (rest : List Field) → i < length fields → rest ≡ [] → all_take (map field_alike (drop i fields)) rest ≡ false
alike_none [] i rest lt r = absurd (omega arith)
alike_none (x ∷ xs) zero rest lt r = ap (all_take (map field_alike (x ∷ xs))) r
alike_none (x ∷ xs) (suc i) rest lt r = alike_none xs i rest (omega (arith, lt)) r
