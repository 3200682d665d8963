-- Flips and widths of places by their types.
use Rattle.std.proofs.Common.{◌≡◌, ◌≢◌, ℕ, ◌+◌, ◌≤◌, Bool, true, false, not, ◌&&◌, ◌||◌, if◌then◌else◌, List, [], ◌∷◌, ◌++◌, map, Option, Some, None, refl, sym, ap, ap₂, ◌∙◌, subst, arith, inr}
use Rattle.std.specs.Prelude.{nat_le}
use Rattle.std.specs.List.{flat_map, list_any, list_all}
use Rattle.std.proofs.lemmas.Grind.{common_steps}
use Rattle.std.proofs.lemmas.Bool.{or_parts, le-leb, leb-true}
use Rattle.std.proofs.lemmas.List.{map-append}
use Rattle.place_text.specs.declared.place.Place.{Place}
use Rattle.fir_types.specs.declared.fir_type.FirType.{FirType, ind-FirType, the_lemmas}
use Rattle.fir_types.specs.declared.fir_type.Shape.{Shape}
use Rattle.fir_types.specs.declared.fir_type.Shape.TheOpen.{Shape-F}
use Rattle.fir_types.specs.declared.fir_type.Shape.TheFolds.{map-Shape}
use Rattle.fir_types.specs.declared.fir_type.Shape.TheViews.{roll-Shape, roll-Field, roll-FirType}
use Rattle.fir_types.specs.declared.fir_type.Shape.TheVariants as shape
use Rattle.fir_types.specs.declared.fir_type.Shape.TheVariants.{rolls-Unsigned, rolls-Signed, rolls-Clock, rolls-Reset, rolls-AsyncReset, rolls-Bundle, rolls-Vector}
use Rattle.fir_types.specs.declared.fir_type.Field.{Field}
use Rattle.fir_types.specs.Passivity.{has_flip, field_has_flip}
use Rattle.fir_types.specs.Equivalence.{Equivalent, SameFields, IsUnsigned, IsSigned, unsigned, signed, clocks, asyncs, vectors, bundles, no_fields, same_field, a_uint, a_sint, a_reset}
use Rattle.fir_types.proofs.Layers.{flip-bundle}
use Rattle.prim_ops.specs.declared.widths.Width.{Width}
use Rattle.prim_ops.specs.declared.widths.Width.TheVariants.{Bits, Over}
use Rattle.fir_tree.specs.declared.part.Flow.{Flow}
use Rattle.fir_tree.specs.declared.part.Flow.TheVariants.{Source}
use Rattle.fir_tree.specs.Parts.{flow_through}
use Rattle.width_rules.specs.declared.slot.Slot.{Slot}
use Rattle.width_rules.specs.declared.rule.Formula.{Formula}
use Rattle.width_rules.specs.Places.{Spot, spots, turned, slot_of, is_open, slots_from}
use Rattle.width_rules.specs.Layers.{field_spots}
use Rattle.width_rules.proofs.Bounds.{Each, each_append}
use Rattle.width_rules.proofs.Spots.{spots-bundle, spots-vector, spots-field}
use Rattle.width_rules.proofs.Capped.{width-capped}
use Rattle.width_fit.specs.Judging.{slot_width, is_over}
use Rattle.fir_meaning.specs.Components.{width_or_none}
use Rattle.fir_meaning.specs.WellTyped.{is_narrow}
use Rattle.circuit_laws.proofs.Pieces.{narrow-vector}
use Rattle.fitted_laws.proofs.Filling.{is_narrow-unsigned, is_narrow-signed, is_narrow-clock, is_narrow-bundle}
use Rattle.fitted_laws.proofs.Steps.{Placed}
use Rattle.fitted_laws.proofs.Known.{Marks, Marked}
use Rattle.fitted_laws.proofs.Ruling.{NoFlip, Drivable, not_source}

-- Passive types

abbrev Straight : FirType → Type 0
Straight t = has_flip t ≡ false → Each NoFlip (spots t)

abbrev FieldStraight : Field → Type 0
FieldStraight f = Straight f.typ

abbrev ShapeStraight : Shape → Type 0
ShapeStraight s = (place : Place) → Straight (record { place = place; shape = s })

flip-vector : (t e : FirType) (n : ℕ) → t.shape ≡ shape.Vector e n → has_flip t ≡ has_flip e
flip-vector t e n h = grind (arith, common_steps, the_lemmas)

flip-field : (f : Field) → field_has_flip f ≡ (f.flip || has_flip f.typ)
flip-field f = grind (arith, common_steps, the_lemmas)

not_turned : (b : Bool) (ss : List Spot) → b ≡ false → Each NoFlip ss → Each NoFlip (map (turned b) ss)
not_turned b [] e h = tt
not_turned b (s ∷ ss) e h = (ap (λ x. if x then not s.flip else s.flip) e ∙ h.0, not_turned b ss e h.1)

fields_straight : (ps : List ((f : Field) × FieldStraight f)) → list_any field_has_flip (map (λ e. e.0) ps) ≡ false → Each NoFlip (flat_map field_spots (map (λ e. e.0) ps))
fields_straight [] h = tt
fields_straight (p ∷ ps) h =
    let both = or_parts (field_has_flip p.0) (list_any field_has_flip (map (λ e. e.0) ps)) h in
    let own = or_parts p.0.flip (has_flip p.0.typ) (sym (flip-field p.0) ∙ both.0) in
    each_append NoFlip (field_spots p.0) (flat_map field_spots (map (λ e. e.0) ps))
    (subst (Each NoFlip) (sym (spots-field p.0)) (not_turned p.0.flip (spots p.0.typ) own.0 (p.1 own.1))) (fields_straight ps both.1)

one-unsigned : (t : FirType) (w : Option ℕ) → t.shape ≡ shape.Unsigned w → spots t ≡ record { flip = false; width = w } ∷ []
one-unsigned t w e = grind (arith, common_steps, the_lemmas)

one-signed : (t : FirType) (w : Option ℕ) → t.shape ≡ shape.Signed w → spots t ≡ record { flip = false; width = w } ∷ []
one-signed t w e = grind (arith, common_steps, the_lemmas)

one-reset : (t : FirType) → t.shape ≡ shape.Reset → spots t ≡ record { flip = false; width = Some 1 } ∷ []
one-reset t e = grind (arith, common_steps, the_lemmas)

one-async : (t : FirType) → t.shape ≡ shape.AsyncReset → spots t ≡ record { flip = false; width = Some 1 } ∷ []
one-async t e = grind (arith, common_steps, the_lemmas)

one-clock : (t : FirType) → t.shape ≡ shape.Clock → spots t ≡ []
one-clock t e = grind (arith, common_steps, the_lemmas)

shape_straight : (y : Shape-F ((s : Shape) × ShapeStraight s) ((f : Field) × FieldStraight f) ((t : FirType) × Straight t))
    → ShapeStraight (roll-Shape (map-Shape _ _ _ Shape Field FirType (λ e. e.0) (λ e. e.0) (λ e. e.0) y))
shape_straight (Shape-F.Unsigned w) = subst ShapeStraight (sym (rolls-Unsigned w)) (λ place h. subst (Each NoFlip) (sym (one-unsigned (record { place = place; shape = shape.Unsigned w }) w refl)) (refl, tt))
shape_straight (Shape-F.Signed w) = subst ShapeStraight (sym (rolls-Signed w)) (λ place h. subst (Each NoFlip) (sym (one-signed (record { place = place; shape = shape.Signed w }) w refl)) (refl, tt))
shape_straight Shape-F.Clock = subst ShapeStraight (sym rolls-Clock) (λ place h. subst (Each NoFlip) (sym (one-clock (record { place = place; shape = shape.Clock }) refl)) tt)
shape_straight Shape-F.Reset = subst ShapeStraight (sym rolls-Reset) (λ place h. subst (Each NoFlip) (sym (one-reset (record { place = place; shape = shape.Reset }) refl)) (refl, tt))
shape_straight Shape-F.AsyncReset = subst ShapeStraight (sym rolls-AsyncReset) (λ place h. subst (Each NoFlip) (sym (one-async (record { place = place; shape = shape.AsyncReset }) refl)) (refl, tt))
shape_straight (Shape-F.Bundle ps) = subst ShapeStraight (sym (rolls-Bundle (map (λ e. e.0) ps))) (λ place h.
    let fs : List Field = map (λ e. e.0) ps in
    let t : FirType = record { place = place; shape = shape.Bundle (map (λ e. e.0) ps) } in
    subst (Each NoFlip) (sym (spots-bundle t fs refl)) (fields_straight ps (sym (flip-bundle t fs refl) ∙ h)))
shape_straight (Shape-F.Vector p n) = subst ShapeStraight (sym (rolls-Vector p.0 n)) (λ place h.
    let t : FirType = record { place = place; shape = shape.Vector p.0 n } in
    subst (Each NoFlip) (sym (spots-vector t p.0 n refl)) (p.1 (sym (flip-vector t p.0 n refl) ∙ h)))

pub straight_spots : (t : FirType) → has_flip t ≡ false → Each NoFlip (spots t)
straight_spots = ind-FirType ShapeStraight FieldStraight Straight
    (λ x y is. subst (λ z. ShapeStraight (roll-Shape z)) is (shape_straight y))
    (λ x y is. subst (λ z. FieldStraight (roll-Field z)) is y.typ.1)
    (λ x y is. subst (λ z. Straight (roll-FirType z)) is (y.shape.1 y.place))

-- Equivalent types

abbrev flips : List Spot → List Bool
flips ss = map (λ (s : Spot). s.flip) ss

unsigned_flips : {t : FirType} → IsUnsigned t → flips (spots t) ≡ false ∷ []
unsigned_flips {t} (a_uint w e) = ap flips (one-unsigned t w e)
unsigned_flips {t} (a_reset e) = ap flips (one-reset t e)

signed_flips : {t : FirType} → IsSigned t → flips (spots t) ≡ false ∷ []
signed_flips {t} (a_sint w e) = ap flips (one-signed t w e)

turned_flips : (b : Bool) (ss ts : List Spot) → flips ss ≡ flips ts → flips (map (turned b) ss) ≡ flips (map (turned b) ts)
turned_flips b [] [] e = refl
turned_flips b [] (t ∷ ts) e = cc
turned_flips b (s ∷ ss) [] e = cc
turned_flips b (s ∷ ss) (t ∷ ts) e =
    let one : s.flip ≡ t.flip = cc in
    let rest : flips ss ≡ flips ts = cc in
    ap₂ (λ x xs. (if b then not x else x) ∷ xs) one (turned_flips b ss ts rest)

mutual
  pub flips_alike : {a b : FirType} → Equivalent a b → flips (spots a) ≡ flips (spots b)
  flips_alike (unsigned u v) = unsigned_flips u ∙ sym (unsigned_flips v)
  flips_alike (signed u v) = signed_flips u ∙ sym (signed_flips v)
  flips_alike {a} {b} (clocks u v) = ap flips (one-clock a u) ∙ sym (ap flips (one-clock b v))
  flips_alike {a} {b} (asyncs u v) = ap flips (one-async a u) ∙ sym (ap flips (one-async b v))
  flips_alike {a} {b} (vectors e o n u v q) = ap flips (spots-vector a e n u) ∙ flips_alike q ∙ sym (ap flips (spots-vector b o n v))
  flips_alike {a} {b} (bundles fs gs u v q) = ap flips (spots-bundle a fs u) ∙ fields_alike q ∙ sym (ap flips (spots-bundle b gs v))

  fields_alike : {fs gs : List Field} → SameFields fs gs → flips (flat_map field_spots fs) ≡ flips (flat_map field_spots gs)
  fields_alike no_fields = refl
  fields_alike (same_field {field = f} {other = g} {rest = fs} {others = gs} a b q rest) =
      map-append (λ (s : Spot). s.flip) (field_spots f) (flat_map field_spots fs)
      ∙ ap₂ (λ x y. x ++ y) (ap flips (spots-field f) ∙ turned_flips f.flip (spots f.typ) (spots g.typ) (flips_alike q) ∙ ap (λ c. flips (map (turned c) (spots g.typ))) b ∙ sym (ap flips (spots-field g))) (fields_alike rest)
      ∙ sym (map-append (λ (s : Spot). s.flip) (field_spots g) (flat_map field_spots gs))

-- what is driven in a passive type is the left side
pub drivable_straight : (ms : Marks) (flow : Flow) (ss : List Spot) (ls rs : List Formula) → Each NoFlip ss → Placed (Marked ms) flow ss ls → flow ≢ Source → Drivable ms ss ls rs
drivable_straight ms flow [] ls rs h k n = tt
drivable_straight ms flow (s ∷ ss) [] rs h k n = tt
drivable_straight ms flow (s ∷ ss) (l ∷ ls) [] h k n = tt
drivable_straight ms flow (s ∷ ss) (l ∷ ls) (r ∷ rs) h k n = (
  λ f. not_source ms flow l (subst (λ b. Marked ms (flow_through b flow) l) f k.0) n,
  λ f. absurd (let q : true ≡ false = sym f ∙ h.0 in cc),
  drivable_straight ms flow ss ls rs h.1 k.1 n,
)

-- a passive part that can only be read
pub source_placed : (ms : Marks) (ss : List Spot) (fs : List Formula) → Each NoFlip ss → Placed (Marked ms) Source ss fs
source_placed ms [] fs h = tt
source_placed ms (s ∷ ss) [] h = tt
source_placed ms (s ∷ ss) (f ∷ fs) h = (λ x e. inr (ap (λ b. flow_through b Source) h.0), source_placed ms ss fs h.1)

-- Narrow types by their places

abbrev IsSmall : Spot → Type 0
IsSmall s = width_or_none s.width ≤ 128

abbrev SmallNarrow : FirType → Type 0
SmallNarrow t = Each IsSmall (spots t) → is_narrow t ≡ true

abbrev FieldSmall : Field → Type 0
FieldSmall f = SmallNarrow f.typ

abbrev ShapeSmall : Shape → Type 0
ShapeSmall s = (place : Place) → SmallNarrow (record { place = place; shape = s })

small_turned : (b : Bool) (ss : List Spot) → Each IsSmall (map (turned b) ss) → Each IsSmall ss
small_turned b [] h = tt
small_turned b (s ∷ ss) h = (h.0, small_turned b ss h.1)

each_front : {X : Type 0} (P : X → Type 0) (xs ys : List X) → Each P (xs ++ ys) → Each P xs
each_front P [] ys h = tt
each_front P (x ∷ xs) ys h = (h.0, each_front P xs ys h.1)

each_back : {X : Type 0} (P : X → Type 0) (xs ys : List X) → Each P (xs ++ ys) → Each P ys
each_back P [] ys h = h
each_back P (x ∷ xs) ys h = each_back P xs ys h.1

fields_small : (ps : List ((f : Field) × FieldSmall f)) → Each IsSmall (flat_map field_spots (map (λ e. e.0) ps)) → list_all (λ f. is_narrow f.typ) (map (λ e. e.0) ps) ≡ true
fields_small [] h = refl
fields_small (p ∷ ps) h = ap₂ (λ a b. a && b)
    (p.1 (small_turned p.0.flip (spots p.0.typ) (subst (Each IsSmall) (spots-field p.0) (each_front IsSmall (field_spots p.0) (flat_map field_spots (map (λ e. e.0) ps)) h))))
    (fields_small ps (each_back IsSmall (field_spots p.0) (flat_map field_spots (map (λ e. e.0) ps)) h))

shape_small : (y : Shape-F ((s : Shape) × ShapeSmall s) ((f : Field) × FieldSmall f) ((t : FirType) × SmallNarrow t))
    → ShapeSmall (roll-Shape (map-Shape _ _ _ Shape Field FirType (λ e. e.0) (λ e. e.0) (λ e. e.0) y))
shape_small (Shape-F.Unsigned w) = subst ShapeSmall (sym (rolls-Unsigned w)) (λ place h.
    let t : FirType = record { place = place; shape = shape.Unsigned w } in
    is_narrow-unsigned t w refl ∙ le-leb (width_or_none w) 128 ((subst (Each IsSmall) (one-unsigned t w refl) h).0))
shape_small (Shape-F.Signed w) = subst ShapeSmall (sym (rolls-Signed w)) (λ place h.
    let t : FirType = record { place = place; shape = shape.Signed w } in
    is_narrow-signed t w refl ∙ le-leb (width_or_none w) 128 ((subst (Each IsSmall) (one-signed t w refl) h).0))
shape_small Shape-F.Clock = subst ShapeSmall (sym rolls-Clock) (λ place h. is_narrow-clock (record { place = place; shape = shape.Clock }) refl)
shape_small Shape-F.Reset = subst ShapeSmall (sym rolls-Reset) (λ place h. grind (arith, common_steps, the_lemmas))
shape_small Shape-F.AsyncReset = subst ShapeSmall (sym rolls-AsyncReset) (λ place h. grind (arith, common_steps, the_lemmas))
shape_small (Shape-F.Bundle ps) = subst ShapeSmall (sym (rolls-Bundle (map (λ e. e.0) ps))) (λ place h.
    let fs : List Field = map (λ e. e.0) ps in
    let t : FirType = record { place = place; shape = shape.Bundle (map (λ e. e.0) ps) } in
    is_narrow-bundle t fs refl ∙ fields_small ps (subst (Each IsSmall) (spots-bundle t fs refl) h))
shape_small (Shape-F.Vector p n) = subst ShapeSmall (sym (rolls-Vector p.0 n)) (λ place h.
    let t : FirType = record { place = place; shape = shape.Vector p.0 n } in
    narrow-vector t p.0 n refl ∙ p.1 (subst (Each IsSmall) (spots-vector t p.0 n refl) h))

small_narrow : (t : FirType) → SmallNarrow t
small_narrow = ind-FirType ShapeSmall FieldSmall SmallNarrow
    (λ x y is. subst (λ z. ShapeSmall (roll-Shape z)) is (shape_small y))
    (λ x y is. subst (λ z. FieldSmall (roll-Field z)) is y.typ.1)
    (λ x y is. subst (λ z. SmallNarrow (roll-FirType z)) is (y.shape.1 y.place))

slots_small : (ws : List Width) (n : ℕ) (ss : List Spot) → list_any (λ (s : Slot). is_over (slot_width ws s)) (slots_from n ss) ≡ false → Each IsSmall ss
slots_small ws n [] h = tt
slots_small ws n (s ∷ ss) h =
    let both = or_parts (is_over (slot_width ws (slot_of n s.width))) _ h in
    (one s.width both.0, slots_small ws (n + is_open s.width) ss both.1)
  where
    small : (b : Bool) (w : ℕ) → nat_le w 128 ≡ b → is_over (if b then Bits w else Over) ≡ false → w ≤ 128
    small true w q e = leb-true w 128 q
    small false w q e = cc

    one : (width : Option ℕ) → is_over (slot_width ws (slot_of n width)) ≡ false → width_or_none width ≤ 128
    one None e = omega arith
    one (Some w) e = small (nat_le w 128) w refl (sym (ap is_over (width-capped w ws)) ∙ e)

-- a type whose declared places aren't over has no ground type of more than 128 bits
pub places_narrow : (ws : List Width) (n : ℕ) (t : FirType) → list_any (λ (s : Slot). is_over (slot_width ws s)) (slots_from n (spots t)) ≡ false → is_narrow t ≡ true
places_narrow ws n t h = small_narrow t (slots_small ws n (spots t) h)
