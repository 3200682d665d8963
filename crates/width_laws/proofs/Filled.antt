-- The places of a filled type have the widths that fill it, but for an AsyncReset, whose place has width 1; and a node of a type has as
-- many places.
use Rattle.std.proofs.Common.{◌≡◌, ◌⊎◌, ℕ, ◌+◌, ◌-◌, ◌≤◌, Bool, true, false, ◌&&◌, List, [], ◌∷◌, ◌++◌, map, length, drop, Option, Some, refl, sym, ap, ap₂, ◌∙◌, subst, inl, inr, arith, length-append, ⊎_elim}
use Rattle.std.specs.Prelude.{⊤}
use Rattle.std.specs.List.{AllZip, flat_map, list_all}
use Rattle.std.proofs.lemmas.Grind.{common_steps}
use Rattle.std.proofs.lemmas.List.{length-map, length-drop}
use Rattle.place_text.specs.declared.place.Place.{Place}
use Rattle.fir_types.specs.declared.fir_type.FirType.{FirType, ind-FirType, the_lemmas}
use Rattle.fir_types.specs.declared.fir_type.Shape.{Shape}
use Rattle.fir_types.specs.declared.fir_type.Shape.TheOpen.{Shape-F}
use Rattle.fir_types.specs.declared.fir_type.Shape.TheFolds.{map-Shape}
use Rattle.fir_types.specs.declared.fir_type.Shape.TheViews.{roll-Shape, roll-Field, roll-FirType}
use Rattle.fir_types.specs.declared.fir_type.Shape.TheVariants as shape
use Rattle.fir_types.specs.declared.fir_type.Shape.TheVariants.{rolls-Unsigned, rolls-Signed, rolls-Clock, rolls-Reset, rolls-AsyncReset, rolls-Bundle, rolls-Vector}
use Rattle.fir_types.specs.declared.fir_type.Field.{Field}
use Rattle.prim_ops.specs.declared.widths.Width.{Width}
use Rattle.width_rules.specs.Places.{Spot, one_spot, spots, size, turned, node_spots}
use Rattle.width_rules.specs.Layers.{field_spots}
use Rattle.width_rules.proofs.Spots.{spots-bundle, spots-vector, spots-field}
use Rattle.type_filling.specs.Filling.{filled, number, first_number}
use Rattle.type_filling.specs.Layers.{field_taking, fields_taking}
use Rattle.part_fits.proofs.Filled.{fills}
use Rattle.width_fit.specs.Written.{place_widths}
use Rattle.width_laws.specs.Declared.{KeepsWidth}
use Rattle.width_laws.specs.Numbered.{is_number}

-- a node of a type has a place for each of the type's
pub node_counted : (t : FirType) → length (node_spots t) ≡ size t
node_counted t = (fills t).as_many

-- Filled places

-- the width that a place of this written width is filled with: the one that is found, or 1 for an AsyncReset
abbrev pub FillsAs : Option ℕ → Width → Option ℕ → Type 0
FillsAs own w found = (found ≡ number w) ⊎ ((own ≡ Some 1) × (found ≡ Some 1))

-- place by place, by the first of the widths
abbrev pub AllFill : List (Option ℕ) → List Width → List (Option ℕ) → Type 0
AllFill [] ws [] = ⊤
AllFill [] ws (x ∷ xs) = ⊥
AllFill (o ∷ os) [] xs = ⊥
AllFill (o ∷ os) (w ∷ ws) [] = ⊥
AllFill (o ∷ os) (w ∷ ws) (x ∷ xs) = FillsAs o w x × AllFill os ws xs

abbrev given : List Spot → List (Option ℕ)
given ss = map (λ (spot : Spot). spot.width) ss

all_append : (os : List (Option ℕ)) (ws : List Width) (xs ps ys : List (Option ℕ)) → AllFill os ws xs → AllFill ps (drop (length os) ws) ys → AllFill (os ++ ps) ws (xs ++ ys)
all_append [] ws [] ps ys h k = k
all_append [] ws (x ∷ xs) ps ys h k = absurd h
all_append (o ∷ os) [] xs ps ys h k = absurd h
all_append (o ∷ os) (w ∷ ws) [] ps ys h k = absurd h
all_append (o ∷ os) (w ∷ ws) (x ∷ xs) ps ys h k = (h.0, all_append os ws xs ps ys h.1 k)

given_append : (ss ts : List Spot) → given (ss ++ ts) ≡ given ss ++ given ts
given_append [] ts = refl
given_append (s ∷ ss) ts = ap (λ l. s.width ∷ l) (given_append ss ts)

given_turned : (b : Bool) (ss : List Spot) → given (map (turned b) ss) ≡ given ss
given_turned b [] = refl
given_turned b (s ∷ ss) = ap (λ l. s.width ∷ l) (given_turned b ss)

given_field : (f : Field) → given (field_spots f) ≡ given (spots f.typ)
given_field f = ap given (spots-field f) ∙ given_turned f.flip (spots f.typ)

filled_field : (f : Field) (ws : List Width) → (field_taking f ws).0.typ ≡ filled f.typ ws
filled_field f ws = grind (arith, common_steps, the_lemmas)

field_rest : (f : Field) (ws : List Width) → (field_taking f ws).1 ≡ drop (size f.typ) ws
field_rest f ws = let r = (fills f.typ).behind ws in grind (arith, common_steps, the_lemmas, r)

filled-bundle : (t : FirType) (fs : List Field) → t.shape ≡ shape.Bundle fs → (ws : List Width) → (filled t ws).shape ≡ shape.Bundle (fields_taking fs ws).0
filled-bundle t fs e ws = grind (arith, common_steps, the_lemmas)

filled-vector : (t e : FirType) (n : ℕ) → t.shape ≡ shape.Vector e n → (ws : List Width) → (filled t ws).shape ≡ shape.Vector (filled e ws) n
filled-vector t e n h ws = grind (arith, common_steps, the_lemmas)

filled-unsigned : (t : FirType) (w : Option ℕ) → t.shape ≡ shape.Unsigned w → (ws : List Width) → (filled t ws).shape ≡ shape.Unsigned (first_number ws)
filled-unsigned t w h ws = grind (arith, common_steps, the_lemmas)

filled-signed : (t : FirType) (w : Option ℕ) → t.shape ≡ shape.Signed w → (ws : List Width) → (filled t ws).shape ≡ shape.Signed (first_number ws)
filled-signed t w h ws = grind (arith, common_steps, the_lemmas)

filled-clock : (t : FirType) → t.shape ≡ shape.Clock → (ws : List Width) → (filled t ws).shape ≡ shape.Clock
filled-clock t h ws = grind (arith, common_steps, the_lemmas)

filled-reset : (t : FirType) → t.shape ≡ shape.Reset → (ws : List Width) → (filled t ws).shape ≡ shape.Unsigned (first_number ws)
filled-reset t h ws = grind (arith, common_steps, the_lemmas)

filled-async : (t : FirType) → t.shape ≡ shape.AsyncReset → (ws : List Width) → (filled t ws).shape ≡ shape.AsyncReset
filled-async t h ws = grind (arith, common_steps, the_lemmas)

spots-unsigned : (t : FirType) (w : Option ℕ) → t.shape ≡ shape.Unsigned w → spots t ≡ one_spot w
spots-unsigned t w e = grind (arith, common_steps, the_lemmas)

spots-signed : (t : FirType) (w : Option ℕ) → t.shape ≡ shape.Signed w → spots t ≡ one_spot w
spots-signed t w e = grind (arith, common_steps, the_lemmas)

spots-clock : (t : FirType) → t.shape ≡ shape.Clock → spots t ≡ []
spots-clock t e = grind (arith, common_steps, the_lemmas)

spots-reset : (t : FirType) → t.shape ≡ shape.Reset → spots t ≡ one_spot (Some 1)
spots-reset t e = grind (arith, common_steps, the_lemmas)

spots-async : (t : FirType) → t.shape ≡ shape.AsyncReset → spots t ≡ one_spot (Some 1)
spots-async t e = grind (arith, common_steps, the_lemmas)

abbrev TypeFills : FirType → Type 0
TypeFills t = (ws : List Width) → size t ≤ length ws → AllFill (place_widths t) ws (place_widths (filled t ws))

abbrev FieldFills : Field → Type 0
FieldFills f = TypeFills f.typ

abbrev ShapeFills : Shape → Type 0
ShapeFills s = (place : Place) → TypeFills (record { place = place; shape = s })

-- a type by the places that it and the filled type have
by_places : (t : FirType) (ws : List Width) (ss ts : List Spot) → spots t ≡ ss → spots (filled t ws) ≡ ts → AllFill (given ss) ws (given ts) → AllFill (place_widths t) ws (place_widths (filled t ws))
by_places t ws ss ts p q h = subst (λ xs. AllFill (given xs) ws (place_widths (filled t ws))) (sym p) (subst (λ xs. AllFill (given ss) ws (given xs)) (sym q) h)

one_place : (own : Option ℕ) (ws : List Width) → 1 ≤ length ws → AllFill (own ∷ []) ws (first_number ws ∷ [])
one_place own [] h = absurd (omega (arith, h))
one_place own (w ∷ ws) h = (inl refl, tt)

one_async : (ws : List Width) → 1 ≤ length ws → AllFill (Some 1 ∷ []) ws (Some 1 ∷ [])
one_async [] h = absurd (omega (arith, h))
one_async (w ∷ ws) h = (inr (refl, refl), tt)

more_fields : (f : Field) (fs : List Field) → length (flat_map field_spots (f ∷ fs)) ≡ size f.typ + length (flat_map field_spots fs)
more_fields f fs = length-append (field_spots f) (flat_map field_spots fs)
    ∙ ap (λ n. n + length (flat_map field_spots fs)) (ap length (spots-field f) ∙ length-map (spots f.typ) (turned f.flip))

fields_fill : (ps : List ((f : Field) × FieldFills f)) (ws : List Width) → length (flat_map field_spots (map (λ e. e.0) ps)) ≤ length ws
    → AllFill (given (flat_map field_spots (map (λ e. e.0) ps))) ws (given (flat_map field_spots (fields_taking (map (λ e. e.0) ps) ws).0))
fields_fill [] ws h = tt
fields_fill (p ∷ ps) ws h =
    let f : Field = p.0 in
    let fs : List Field = map (λ e. e.0) ps in
    let g : Field = (field_taking f ws).0 in
    let gs : List Field = (fields_taking fs (field_taking f ws).1).0 in
    let more : length (flat_map field_spots (f ∷ fs)) ≡ size f.typ + length (flat_map field_spots fs) = more_fields f fs in
    let dropped : length (drop (size f.typ) ws) ≡ length ws - size f.typ = length-drop (size f.typ) ws in
    let own : AllFill (given (field_spots f)) ws (given (field_spots g))
    = subst (λ xs. AllFill xs ws (given (field_spots g))) (sym (given_field f))
    (subst (AllFill (given (spots f.typ)) ws) (sym (given_field g ∙ ap (λ t. given (spots t)) (filled_field f ws))) (p.1 ws (omega (arith, more, h)))) in
    let counted : length (given (field_spots f)) ≡ size f.typ = ap length (given_field f) ∙ length-map (spots f.typ) (λ (spot : Spot). spot.width) in
    let rest : AllFill (given (flat_map field_spots fs)) (drop (length (given (field_spots f))) ws) (given (flat_map field_spots gs))
    = subst (λ n. AllFill (given (flat_map field_spots fs)) (drop n ws) (given (flat_map field_spots gs))) (sym counted)
    (subst (λ vs. AllFill (given (flat_map field_spots fs)) (drop (size f.typ) ws) (given (flat_map field_spots (fields_taking fs vs).0))) (sym (field_rest f ws))
    (fields_fill ps (drop (size f.typ) ws) (omega (arith, more, h, dropped)))) in
    subst (λ xs. AllFill xs ws (given (flat_map field_spots (g ∷ gs)))) (sym (given_append (field_spots f) (flat_map field_spots fs)))
    (subst (AllFill (given (field_spots f) ++ given (flat_map field_spots fs)) ws) (sym (given_append (field_spots g) (flat_map field_spots gs)))
    (all_append (given (field_spots f)) ws (given (field_spots g)) (given (flat_map field_spots fs)) (given (flat_map field_spots gs)) own rest))

shape_fills : (y : Shape-F ((s : Shape) × ShapeFills s) ((f : Field) × FieldFills f) ((t : FirType) × TypeFills t))
    → ShapeFills (roll-Shape (map-Shape _ _ _ Shape Field FirType (λ e. e.0) (λ e. e.0) (λ e. e.0) y))
shape_fills (Shape-F.Unsigned w) = subst ShapeFills (sym (rolls-Unsigned w)) (λ place ws h.
    let t : FirType = record { place = place; shape = shape.Unsigned w } in
    by_places t ws (one_spot w) (one_spot (first_number ws)) (spots-unsigned t w refl) (spots-unsigned (filled t ws) (first_number ws) (filled-unsigned t w refl ws))
    (one_place w ws (subst (λ n. n ≤ length ws) (ap length (spots-unsigned t w refl)) h)))
shape_fills (Shape-F.Signed w) = subst ShapeFills (sym (rolls-Signed w)) (λ place ws h.
    let t : FirType = record { place = place; shape = shape.Signed w } in
    by_places t ws (one_spot w) (one_spot (first_number ws)) (spots-signed t w refl) (spots-signed (filled t ws) (first_number ws) (filled-signed t w refl ws))
    (one_place w ws (subst (λ n. n ≤ length ws) (ap length (spots-signed t w refl)) h)))
shape_fills Shape-F.Clock = subst ShapeFills (sym rolls-Clock) (λ place ws h.
    let t : FirType = record { place = place; shape = shape.Clock } in by_places t ws [] [] (spots-clock t refl) (spots-clock (filled t ws) (filled-clock t refl ws)) tt)
shape_fills Shape-F.Reset = subst ShapeFills (sym rolls-Reset) (λ place ws h.
    let t : FirType = record { place = place; shape = shape.Reset } in
    by_places t ws (one_spot (Some 1)) (one_spot (first_number ws)) (spots-reset t refl) (spots-unsigned (filled t ws) (first_number ws) (filled-reset t refl ws))
    (one_place (Some 1) ws (subst (λ n. n ≤ length ws) (ap length (spots-reset t refl)) h)))
shape_fills Shape-F.AsyncReset = subst ShapeFills (sym rolls-AsyncReset) (λ place ws h.
    let t : FirType = record { place = place; shape = shape.AsyncReset } in
    by_places t ws (one_spot (Some 1)) (one_spot (Some 1)) (spots-async t refl) (spots-async (filled t ws) (filled-async t refl ws))
    (one_async ws (subst (λ n. n ≤ length ws) (ap length (spots-async t refl)) h)))
shape_fills (Shape-F.Bundle ps) = subst ShapeFills (sym (rolls-Bundle (map (λ e. e.0) ps))) (λ place ws h.
    let fs : List Field = map (λ e. e.0) ps in
    let t : FirType = record { place = place; shape = shape.Bundle (map (λ e. e.0) ps) } in
    by_places t ws (flat_map field_spots fs) (flat_map field_spots (fields_taking fs ws).0) (spots-bundle t fs refl) (spots-bundle (filled t ws) (fields_taking fs ws).0 (filled-bundle t fs refl ws))
    (fields_fill ps ws (subst (λ n. n ≤ length ws) (ap length (spots-bundle t fs refl)) h)))
shape_fills (Shape-F.Vector p n) = subst ShapeFills (sym (rolls-Vector p.0 n)) (λ place ws h.
    let t : FirType = record { place = place; shape = shape.Vector p.0 n } in
    by_places t ws (spots p.0) (spots (filled p.0 ws)) (spots-vector t p.0 n refl) (spots-vector (filled t ws) (filled p.0 ws) n (filled-vector t p.0 n refl ws))
    (p.1 ws (subst (λ n. n ≤ length ws) (ap length (spots-vector t p.0 n refl)) h)))

all_filled : (t : FirType) → TypeFills t
all_filled = ind-FirType ShapeFills FieldFills TypeFills
    (λ x y is. subst (λ z. ShapeFills (roll-Shape z)) is (shape_fills y))
    (λ x y is. subst (λ z. FieldFills (roll-Field z)) is y.typ.1)
    (λ x y is. subst (λ z. TypeFills (roll-FirType z)) is (y.shape.1 y.place))

pub places_filled : (typ : FirType) (ws : List Width) → length ws ≡ size typ → AllFill (place_widths typ) ws (place_widths (filled typ ws))
places_filled typ ws e = all_filled typ ws (omega (arith, e))

-- What the text gives stays where what is found keeps it.
pub kept_fills : (os : List (Option ℕ)) (ws : List Width) (xs : List (Option ℕ)) → AllFill os ws xs → AllZip KeepsWidth os (map number ws) → AllZip KeepsWidth os xs
kept_fills [] ws [] h k = tt
kept_fills [] ws (x ∷ xs) h k = absurd h
kept_fills (o ∷ os) [] xs h k = absurd h
kept_fills (o ∷ os) (w ∷ ws) [] h k = absurd h
kept_fills (o ∷ os) (w ∷ ws) (x ∷ xs) h k = (
  ⊎_elim
      (λ is. subst (KeepsWidth o) (sym is) k.0)
      (λ is. subst (λ a. KeepsWidth a x) (sym is.0) (λ small. is.1)) h.0,
  kept_fills os ws xs h.1 k.1,
)

-- All are numbers where what is found are numbers.
pub numbers_fill : (os : List (Option ℕ)) (ws : List Width) (xs : List (Option ℕ)) → length ws ≡ length os → AllFill os ws xs → list_all is_number (map number ws) ≡ true → list_all is_number xs ≡ true
numbers_fill [] ws [] e h k = refl
numbers_fill [] ws (x ∷ xs) e h k = absurd h
numbers_fill (o ∷ os) [] xs e h k = absurd h
numbers_fill (o ∷ os) (w ∷ ws) [] e h k = absurd h
numbers_fill (o ∷ os) (w ∷ ws) (x ∷ xs) e h k =
    ap₂ (λ a b. a && b) (⊎_elim (λ is. ap is_number is ∙ first (is_number (number w)) _ k) (λ is. ap is_number is.1) h.0)
    (numbers_fill os ws xs (omega (arith, e)) h.1 (others (is_number (number w)) _ k))
  where
    first : (b c : Bool) → (b && c) ≡ true → b ≡ true
    first true c q = refl
    first false c q = cc

    others : (b c : Bool) → (b && c) ≡ true → c ≡ true
    others true c q = q
    others false c q = cc
