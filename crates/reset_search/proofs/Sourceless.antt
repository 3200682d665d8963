-- Where no AsyncReset is declared and no source is an `asAsyncReset`, nothing is reached.
use Rattle.std.proofs.Common.{arith, ◌≡◌, ℕ, zero, suc, ◌+◌, Bool, true, false, ◌||◌, List, [], ◌∷◌, ◌++◌, map, take, drop, length, Option, Some, None, refl, sym, ap, ap₂, ◌∙◌, subst, nat_eq, is_some, if◌then◌else◌}
use Rattle.std.proofs.lemmas.Grind.{common_steps}
use Rattle.std.specs.Prelude.{◌==◌, flat_map, option_map, option_and_then, find, Contains}
use Rattle.std.specs.List.{range_with_len, list_any}
use Rattle.std.specs.Map.{lookup}
use Rattle.bit_words.specs.declared.value.Kind.{Kind as Sign}
use Rattle.bit_words.specs.declared.value.Kind.TheVariants.{Unsigned, Signed}
use Rattle.place_text.specs.declared.place.Place.{Place}
use Rattle.fir_types.specs.declared.fir_type.FirType.{FirType, ind-FirType, the_lemmas}
use Rattle.fir_types.specs.declared.fir_type.Shape.{Shape, fold-Shape}
use Rattle.fir_types.specs.declared.fir_type.Shape.TheOpen.{Shape-F, Field-F, FirType-F}
use Rattle.fir_types.specs.declared.fir_type.Shape.TheFolds.{map-Shape, map-Field, map-FirType, fold-roll-Shape, fold-roll-Field, fold-roll-FirType}
use Rattle.fir_types.specs.declared.fir_type.Shape.TheViews.{out-Shape, roll-Shape, roll-Field, roll-FirType}
use Rattle.fir_types.specs.declared.fir_type.Field.{Field, fold-Field}
use Rattle.fir_types.specs.declared.fir_type.Shape.TheVariants as shape
use Rattle.fir_tree.specs.Kinds.{ground}
use Rattle.fir_types.specs.Spots.{size}
use Rattle.prim_ops.specs.declared.operation.PrimOp.{PrimOp}
use Rattle.prim_ops.specs.Kinds.{row_kind}
use Rattle.fir_tree.specs.declared.expr.Expr.{Expr, fold-Expr}
use Rattle.fir_tree.specs.declared.expr.Form.{Form, fold-Form}
use Rattle.fir_tree.specs.declared.expr.Suffix.{Suffix, fold-Suffix}
use Rattle.fir_tree.specs.declared.expr.Form.TheOpen.{Form-F, Suffix-F, Expr-F}
use Rattle.fir_tree.specs.declared.expr.Form.TheFolds.{map-Form, map-Suffix, map-Expr, ind-Expr, fold-roll-Form, fold-roll-Suffix, fold-roll-Expr}
use Rattle.fir_tree.specs.declared.expr.Form.TheViews.{roll-Form, roll-Suffix, roll-Expr}
use Rattle.reset_search.specs.declared.ground.Ground.{Ground}
use Rattle.reset_search.specs.declared.spot.Spot.{Spot}
use Rattle.reset_search.specs.declared.spot.Spot.TheVariants.{Cast, Declared, OfNode}
use Rattle.reset_search.specs.declared.spot.Reach.{Reach}
use Rattle.reset_search.specs.Grounds as grounding
use Rattle.reset_search.specs.Grounds.{grounds}
use Rattle.reset_search.specs.Feeds as feeding
use Rattle.reset_search.specs.Feeds.{Known, Among, Step, along, field_step, field_of, field_among, element_step, element_in, is_cast, result, operation, signs_of, choice, reached_by, reach}
use Rattle.reset_search.specs.Sources as source
use Rattle.reset_search.specs.Sources.{any_of, holds_async, is_a_cast}
use Rattle.reset_search.proofs.Placed.{Placed, Plain, MayPlace, KnownPlaced, NoneAsync, none_append, none_turned, none_within, placed_take, placed_drop, placed_if, placed_lookup}

pub or_both : (a b : Bool) → a ≡ false → b ≡ false → (a || b) ≡ false
or_both a b e f = ap₂ (λ x y. x || y) e f

pub or_left : (a b : Bool) → (a || b) ≡ false → a ≡ false
or_left true b e = cc
or_left false b e = refl

pub or_right : (a b : Bool) → (a || b) ≡ false → b ≡ false
or_right true b e = cc
or_right false b e = e

-- Types

abbrev shape_grounds : Shape → List Ground
shape_grounds = fold-Shape (List Ground) (List Ground) (List Ground) grounding.of_shape grounding.of_field (λ t. t.shape)

abbrev field_grounds : Field → List Ground
field_grounds = fold-Field (List Ground) (List Ground) (List Ground) grounding.of_shape grounding.of_field (λ t. t.shape)

abbrev shape_holds : Shape → Bool
shape_holds = fold-Shape Bool Bool Bool source.of_shape (λ f. f.typ) (λ t. t.shape)

abbrev pub field_holds : Field → Bool
field_holds = fold-Field Bool Bool Bool source.of_shape (λ f. f.typ) (λ t. t.shape)

abbrev ShapePlain : Shape → Type 0
ShapePlain s = shape_holds s ≡ false → NoneAsync (shape_grounds s)

abbrev FieldPlain : Field → Type 0
FieldPlain f = field_holds f ≡ false → NoneAsync (field_grounds f)

abbrev TypePlain : FirType → Type 0
TypePlain t = holds_async t ≡ false → NoneAsync (grounds t)

fields_plain : (ps : List ((f : Field) × FieldPlain f)) → any_of (map field_holds (map (λ e. e.0) ps)) ≡ false → NoneAsync (flat_map (λ gs. gs) (map field_grounds (map (λ e. e.0) ps)))
fields_plain [] e = tt
fields_plain (p ∷ ps) e =
    none_append (field_grounds p.0) _ (p.1 (or_left (field_holds p.0) _ e)) (fields_plain ps (or_right (field_holds p.0) _ e))

shape_layer : (y : Shape-F ((s : Shape) × ShapePlain s) ((f : Field) × FieldPlain f) ((t : FirType) × TypePlain t))
    → source.of_shape (map-Shape Shape Field FirType Bool Bool Bool shape_holds field_holds holds_async (map-Shape _ _ _ Shape Field FirType (λ e. e.0) (λ e. e.0) (λ e. e.0) y)) ≡ false
    → NoneAsync (grounding.of_shape (map-Shape Shape Field FirType (List Ground) (List Ground) (List Ground) shape_grounds field_grounds grounds (map-Shape _ _ _ Shape Field FirType (λ e. e.0) (λ e. e.0) (λ e. e.0) y)))
shape_layer (Shape-F.Unsigned w) e = (tt, tt)
shape_layer (Shape-F.Signed w) e = (tt, tt)
shape_layer Shape-F.Clock e = tt
shape_layer Shape-F.Reset e = (tt, tt)
shape_layer Shape-F.AsyncReset e = cc
shape_layer (Shape-F.Bundle fields) e = fields_plain fields e
shape_layer (Shape-F.Vector element n) e = none_within n (grounds element.0) (element.1 e)

pub type_plain : (t : FirType) → TypePlain t
type_plain = ind-FirType ShapePlain FieldPlain TypePlain
    (λ x y is. subst (λ z. ShapePlain (roll-Shape z)) is
    (λ e. let z = map-Shape _ _ _ Shape Field FirType (λ e. e.0) (λ e. e.0) (λ e. e.0) y in
    subst NoneAsync (sym (fold-roll-Shape (List Ground) (List Ground) (List Ground) grounding.of_shape grounding.of_field (λ t. t.shape) z))
    (shape_layer y (sym (fold-roll-Shape Bool Bool Bool source.of_shape (λ f. f.typ) (λ t. t.shape) z) ∙ e))))
    (λ x y is. subst (λ z. FieldPlain (roll-Field z)) is
    (λ e. let z = map-Field _ _ _ Shape Field FirType (λ e. e.0) (λ e. e.0) (λ e. e.0) y in
    subst NoneAsync (sym (fold-roll-Field (List Ground) (List Ground) (List Ground) grounding.of_shape grounding.of_field (λ t. t.shape) z))
    (none_turned y.flip (grounds y.typ.0) (y.typ.1 (sym (fold-roll-Field Bool Bool Bool source.of_shape (λ f. f.typ) (λ t. t.shape) z) ∙ e)))))
    (λ x y is. subst (λ z. TypePlain (roll-FirType z)) is
    (λ e. let z = map-FirType _ _ _ Shape Field FirType (λ e. e.0) (λ e. e.0) (λ e. e.0) y in
    subst NoneAsync (sym (fold-roll-FirType (List Ground) (List Ground) (List Ground) grounding.of_shape grounding.of_field (λ t. t.shape) z))
    (y.shape.1 (sym (fold-roll-FirType Bool Bool Bool source.of_shape (λ f. f.typ) (λ t. t.shape) z) ∙ e))))

-- by the shape of a type
abbrev layer_holds : Shape-F Shape Field FirType → Bool
layer_holds z = source.of_shape (map-Shape Shape Field FirType Bool Bool Bool shape_holds field_holds holds_async z)

pub holds_out : (t : FirType) → holds_async t ≡ layer_holds (out-Shape t.shape)
holds_out t = grind (arith, common_steps, the_lemmas)

pub holds_bundle : (t : FirType) (fields : List Field) → t.shape ≡ shape.Bundle fields → holds_async t ≡ any_of (map field_holds fields)
holds_bundle t fields e = grind (arith, common_steps, the_lemmas)

pub holds_field : (f : Field) → field_holds f ≡ holds_async f.typ
holds_field f = grind (arith, common_steps, the_lemmas)

pub holds_uint : (t : FirType) (w : Option ℕ) → t.shape ≡ shape.Unsigned w → holds_async t ≡ false
holds_uint t w e = grind (arith, common_steps, the_lemmas)

pub holds_sint : (t : FirType) (w : Option ℕ) → t.shape ≡ shape.Signed w → holds_async t ≡ false
holds_sint t w e = grind (arith, common_steps, the_lemmas)

pub holds_clock : (t : FirType) → t.shape ≡ shape.Clock → holds_async t ≡ false
holds_clock t e = grind (arith, common_steps, the_lemmas)

pub holds_ground : (place : Place) (sign : Sign) (width : Option ℕ) → holds_async (ground place sign width) ≡ false
holds_ground place Unsigned width = holds_uint (ground place Unsigned width) width refl
holds_ground place Signed width = holds_sint (ground place Signed width) width refl

-- Expressions

abbrev form_among : Form → Place → Among
form_among = fold-Form (Place → Among) Step Among feeding.of_form feeding.of_suffix feeding.of_expr

abbrev suffix_among : Suffix → Step
suffix_among = fold-Suffix (Place → Among) Step Among feeding.of_form feeding.of_suffix feeding.of_expr

abbrev form_cast : Form → Bool
form_cast = fold-Form Bool Bool Bool source.of_form (λ s. false) (λ e. e.form)

abbrev suffix_cast : Suffix → Bool
suffix_cast = fold-Suffix Bool Bool Bool source.of_form (λ s. false) (λ e. e.form)

abbrev KeepsPlaced : Step → Type 0
KeepsPlaced step = (r : Reach) → Plain r → MayPlace (step r)

abbrev FormPlaces : Form → Type 0
FormPlaces f = form_cast f ≡ false → (place : Place) (known : Known) → KnownPlaced known → MayPlace (form_among f place known)

abbrev SuffixPlaces : Suffix → Type 0
SuffixPlaces s = KeepsPlaced (suffix_among s)

abbrev ExprPlaces : Expr → Type 0
ExprPlaces e = is_a_cast e ≡ false → (known : Known) → KnownPlaced known → MayPlace (reached_by e known)

then_placed : (step : Step) → KeepsPlaced step → (r : Option Reach) → MayPlace r → MayPlace (option_and_then step r)
then_placed step h None k = tt
then_placed step h (Some r) k = h r k

along_placed : (ps : List ((s : Suffix) × SuffixPlaces s)) (r : Option Reach) → MayPlace r → MayPlace (along (map suffix_among (map (λ e. e.0) ps)) r)
along_placed [] r h = h
along_placed (p ∷ ps) r h = along_placed ps (option_and_then (suffix_among p.0) r) (then_placed (suffix_among p.0) p.1 r h)

field_placed : (name : ℕ) (fields : List Field) (spots : List Spot) → Placed spots → any_of (map field_holds fields) ≡ false → MayPlace (field_among name fields spots)
field_placed name [] spots h e = tt
field_placed name (f ∷ fs) spots h e =
    placed_if (f.name.id == name) (Some (reach f.typ (take (size f.typ) spots))) (field_among name fs (drop (size f.typ) spots))
    (placed_take (size f.typ) spots h, sym (holds_field f) ∙ or_left (field_holds f) _ e)
    (field_placed name fs (drop (size f.typ) spots) (placed_drop (size f.typ) spots h) (or_right (field_holds f) _ e))

field_of_placed : (name : ℕ) (spots : List Spot) (s : Shape-F Shape Field FirType) → Placed spots → layer_holds s ≡ false → MayPlace (field_of name spots s)
field_of_placed name spots (Shape-F.Unsigned w) h e = tt
field_of_placed name spots (Shape-F.Signed w) h e = tt
field_of_placed name spots Shape-F.Clock h e = tt
field_of_placed name spots Shape-F.Reset h e = tt
field_of_placed name spots Shape-F.AsyncReset h e = tt
field_of_placed name spots (Shape-F.Bundle fields) h e = field_placed name fields spots h e
field_of_placed name spots (Shape-F.Vector element n) h e = tt

element_placed : (spots : List Spot) (s : Shape-F Shape Field FirType) → Placed spots → layer_holds s ≡ false → MayPlace (element_in spots s)
element_placed spots (Shape-F.Unsigned w) h e = tt
element_placed spots (Shape-F.Signed w) h e = tt
element_placed spots Shape-F.Clock h e = tt
element_placed spots Shape-F.Reset h e = tt
element_placed spots Shape-F.AsyncReset h e = tt
element_placed spots (Shape-F.Bundle fields) h e = tt
element_placed spots (Shape-F.Vector element n) h e = (h, e)

suffix_layer : (z : Suffix-F Form Suffix Expr) → KeepsPlaced (feeding.of_suffix (map-Suffix Form Suffix Expr (Place → Among) Step Among form_among suffix_among reached_by z))
suffix_layer (Suffix-F.Field name) r h = field_of_placed name.id r.spots (out-Shape r.typ.shape) h.0 (sym (holds_out r.typ) ∙ h.1)
suffix_layer (Suffix-F.At bracket at n) r h = element_placed r.spots (out-Shape r.typ.shape) h.0 (sym (holds_out r.typ) ∙ h.1)
suffix_layer (Suffix-F.Index bracket index) r h = element_placed r.spots (out-Shape r.typ.shape) h.0 (sym (holds_out r.typ) ∙ h.1)

plain_unless : (b : Bool) (x y : Reach) → b ≡ false → Plain y → Plain (if b then x else y)
plain_unless true x y e h = cc
plain_unless false x y e h = h

result_plain : (op : PrimOp) (place : Place) (sign : Sign) → is_cast op ≡ false → Plain (result op place sign)
result_plain op place sign e =
    plain_unless (is_cast op) (reach (record { place = place; shape = shape.AsyncReset }) (Cast ∷ [])) (reach (ground place sign None) []) e (tt, holds_ground place sign None)

mapped_placed : (op : PrimOp) (place : Place) → is_cast op ≡ false → (row : Option Sign) → MayPlace (option_map (result op place) row)
mapped_placed op place e None = tt
mapped_placed op place e (Some sign) = result_plain op place sign e

abbrev AllMay : List (Option Reach) → Type 0
AllMay [] = Unit {0}
AllMay (r ∷ rs) = MayPlace r × AllMay rs

choice_placed : (operands : List (Option Reach)) → AllMay operands → MayPlace (choice operands)
choice_placed [] h = tt
choice_placed (None ∷ rest) h = tt
choice_placed (Some c ∷ []) h = tt
choice_placed (Some c ∷ None ∷ rest) h = tt
choice_placed (Some c ∷ Some a ∷ []) h = tt
choice_placed (Some c ∷ Some a ∷ None ∷ rest) h = tt
choice_placed (Some c ∷ Some a ∷ Some b ∷ []) h = placed_if (grounding.are_alike a.typ b.typ) (Some (reach a.typ [])) None (tt, h.1.0.1) tt
choice_placed (Some c ∷ Some a ∷ Some b ∷ x ∷ rest) h = tt

all_may : (ps : List ((e : Expr) × ExprPlaces e)) → any_of (map is_a_cast (map (λ e. e.0) ps)) ≡ false → (known : Known) → KnownPlaced known
    → AllMay (map (λ e. e known) (map reached_by (map (λ e. e.0) ps)))
all_may [] e known h = tt
all_may (p ∷ ps) e known h = (p.1 (or_left (is_a_cast p.0) _ e) known h, all_may ps (or_right (is_a_cast p.0) _ e) known h)

form_layer : (y : Form-F ((f : Form) × FormPlaces f) ((s : Suffix) × SuffixPlaces s) ((e : Expr) × ExprPlaces e))
    → source.of_form (map-Form Form Suffix Expr Bool Bool Bool form_cast suffix_cast is_a_cast (map-Form _ _ _ Form Suffix Expr (λ e. e.0) (λ e. e.0) (λ e. e.0) y)) ≡ false
    → (place : Place) (known : Known) → KnownPlaced known
    → MayPlace (feeding.of_form (map-Form Form Suffix Expr (Place → Among) Step Among form_among suffix_among reached_by (map-Form _ _ _ Form Suffix Expr (λ e. e.0) (λ e. e.0) (λ e. e.0) y)) place known)
form_layer (Form-F.Ref name suffixes) e place known h = along_placed suffixes (lookup (nat_eq name.id) known) (placed_lookup name.id known h)
form_layer (Form-F.Literal sign width number) e place known h = (tt, holds_ground place sign width)
form_layer (Form-F.Prim op operands params) e place known h = mapped_placed op place e _
form_layer (Form-F.Mux operands) e place known h = choice_placed _ (all_may operands e known h)

pub expr_places : (e : Expr) → ExprPlaces e
expr_places = ind-Expr FormPlaces SuffixPlaces ExprPlaces
    (λ x y is. subst (λ z. FormPlaces (roll-Form z)) is
    (λ e place known h. let z = map-Form _ _ _ Form Suffix Expr (λ e. e.0) (λ e. e.0) (λ e. e.0) y in
    subst (λ among. MayPlace (among place known)) (sym (fold-roll-Form (Place → Among) Step Among feeding.of_form feeding.of_suffix feeding.of_expr z))
    (form_layer y (sym (fold-roll-Form Bool Bool Bool source.of_form (λ s. false) (λ e. e.form) z) ∙ e) place known h)))
    (λ x y is. subst (λ z. SuffixPlaces (roll-Suffix z)) is
    (let z = map-Suffix _ _ _ Form Suffix Expr (λ e. e.0) (λ e. e.0) (λ e. e.0) y in
    subst KeepsPlaced (sym (fold-roll-Suffix (Place → Among) Step Among feeding.of_form feeding.of_suffix feeding.of_expr z)) (suffix_layer z)))
    (λ x y is. subst (λ z. ExprPlaces (roll-Expr z)) is
    (λ e known h. let z = map-Expr _ _ _ Form Suffix Expr (λ e. e.0) (λ e. e.0) (λ e. e.0) y in
    subst (λ among. MayPlace (among known)) (sym (fold-roll-Expr (Place → Among) Step Among feeding.of_form feeding.of_suffix feeding.of_expr z))
    (y.form.1 (sym (fold-roll-Expr Bool Bool Bool source.of_form (λ s. false) (λ e. e.form) z) ∙ e) y.place known h)))
