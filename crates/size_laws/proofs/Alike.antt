-- The types that the measure takes for expressions are those of the widths, but for literals and results, which are one leaf there.
use Rattle.std.proofs.Common.{◌≡◌, ℕ, suc, Bool, true, false, ◌&&◌, List, [], ◌∷◌, map, length, fold, refl, sym, ap, ◌∙◌, subst, arith, ◌⊎◌, inl, inr, ⊎_elim, Option, Some, None}
use Rattle.std.specs.Prelude.{find, ◌==◌, option_map, nat_eq}
use Rattle.std.proofs.lemmas.Bool.{eqb-true, false≢true}
use Rattle.std.proofs.lemmas.Grind.{common_steps}
use Rattle.bit_words.specs.declared.value.Kind.{Kind as Sign}
use Rattle.bit_words.specs.declared.value.Kind.TheVariants.{Unsigned, Signed}
use Rattle.place_text.specs.declared.place.Place.{Place}
use Rattle.fir_types.specs.declared.fir_type.FirType.{FirType, the_lemmas}
use Rattle.fir_types.specs.declared.fir_type.Shape.{Shape}
use Rattle.fir_types.specs.declared.fir_type.Shape.TheOpen.{Shape-F}
use Rattle.fir_types.specs.declared.fir_type.Shape.TheViews.{out-Shape}
use Rattle.fir_types.specs.declared.fir_type.Shape.TheVariants as shape
use Rattle.fir_types.specs.declared.fir_type.Field.{Field}
use Rattle.prim_ops.specs.declared.operation.PrimOp.{PrimOp}
use Rattle.prim_ops.specs.declared.operation.PrimOp.TheVariants as op
use Rattle.fir_tree.specs.declared.expr.Expr.{Expr, ind-Expr}
use Rattle.fir_tree.specs.declared.expr.Form.{Form, fold-Form}
use Rattle.fir_tree.specs.declared.expr.Suffix.{Suffix}
use Rattle.fir_tree.specs.declared.expr.Form.TheOpen.{Form-F, Suffix-F, Expr-F}
use Rattle.fir_tree.specs.declared.expr.Form.TheFolds.{map-Form, map-Suffix, map-Expr, fold-roll-Form, fold-roll-Suffix, fold-roll-Expr}
use Rattle.fir_tree.specs.declared.expr.Form.TheViews.{roll-Form, roll-Suffix, roll-Expr}
use Rattle.fir_tree.specs.declared.part.Part.{Part}
use Rattle.fir_tree.specs.Kinds.{ground}
use Rattle.fir_tree.specs.Parts.{field_or_whole, field_of_layer, field_part, element_of_layer, element_part}
use Rattle.fir_meaning.specs.Values.{field_of_shape, element_of_shape, or_itself, field_type, element_type}
use Rattle.width_rules.specs.declared.component.Component.{Component}
use Rattle.width_rules.specs.Sources as sources
use Rattle.width_rules.specs.Sources.{measured, result_type}
use Rattle.size_check.specs.Weights as weighing
use Rattle.size_check.specs.Weights.{Typing, Weight, Weighs, one_bit, weight}
use Rattle.fitted_laws.specs.Shaped as shaping
use Rattle.fitted_laws.specs.Shaped.{is_shaped}
use Rattle.size_laws.specs.Pieces.{ways}

pub and_left : (a b : Bool) → (a && b) ≡ true → a ≡ true
and_left true b e = refl
and_left false b e = cc

pub and_right : (a b : Bool) → (a && b) ≡ true → b ≡ true
and_right true b e = e
and_right false b e = cc

-- a literal or a result
pub data IsLone (t : FirType) : Type 0 where
  a_uint : (width : Option ℕ) → t.shape ≡ shape.Unsigned width → IsLone t
  a_sint : (width : Option ℕ) → t.shape ≡ shape.Signed width → IsLone t
  an_async : t.shape ≡ shape.AsyncReset → IsLone t

-- the same type, or one leaf on both sides
abbrev pub Alike : FirType → FirType → Type 0
Alike t u = (t ≡ u) ⊎ ((t ≡ one_bit) × IsLone u)

lone_ways : {t : FirType} → IsLone t → ways t ≡ [] ∷ []
lone_ways {t} (a_uint w e) = grind (arith, common_steps, the_lemmas)
lone_ways {t} (a_sint w e) = grind (arith, common_steps, the_lemmas)
lone_ways {t} (an_async e) = grind (arith, common_steps, the_lemmas)

bit_ways : ways one_bit ≡ [] ∷ []
bit_ways = grind (arith, common_steps, the_lemmas)

pub same_ways : {t u : FirType} → Alike t u → ways t ≡ ways u
same_ways h = ⊎_elim (λ e. ap ways e) (λ l. ap ways l.0 ∙ bit_ways ∙ sym (lone_ways l.1)) h

ground_lone : (place : Place) (sign : Sign) (width : Option ℕ) → IsLone (ground place sign width)
ground_lone place Unsigned width = a_uint width refl
ground_lone place Signed width = a_sint width refl

result_lone : (prim : PrimOp) (place : Place) (sign : Sign) → IsLone (result_type prim place sign)
result_lone op.AsAsyncReset place sign = an_async refl
result_lone _ place sign = ground_lone place sign None

-- Steps of references

field_found : (p : Part) (o : Option Field) → or_itself p.typ (option_map (λ (f : Field). f.typ) o) ≡ (field_or_whole p o).typ
field_found p (Some f) = refl
field_found p None = refl

field_layer : (name : ℕ) (p : Part) (x : Shape-F Shape Field FirType) → or_itself p.typ (field_of_shape name x) ≡ (field_of_layer name p x).typ
field_layer name p (Shape-F.Bundle fields) = field_found p (find (λ f. f.name.id == name) fields)
field_layer name p (Shape-F.Unsigned w) = refl
field_layer name p (Shape-F.Signed w) = refl
field_layer name p Shape-F.Clock = refl
field_layer name p Shape-F.Reset = refl
field_layer name p Shape-F.AsyncReset = refl
field_layer name p (Shape-F.Vector element n) = refl

element_layer : (p : Part) (x : Shape-F Shape Field FirType) → or_itself p.typ (element_of_shape x) ≡ (element_of_layer p x).typ
element_layer p (Shape-F.Vector element n) = refl
element_layer p (Shape-F.Unsigned w) = refl
element_layer p (Shape-F.Signed w) = refl
element_layer p Shape-F.Clock = refl
element_layer p Shape-F.Reset = refl
element_layer p Shape-F.AsyncReset = refl
element_layer p (Shape-F.Bundle fields) = refl

-- what has no parts stays
lone_field : (name : ℕ) (p : Part) → IsLone p.typ → (field_part name p).typ ≡ p.typ
unfolding out-Shape denote.Hole.Carrier.out
lone_field name p (a_uint w e) = ap (λ s. (field_of_layer name p (out-Shape s)).typ) e
lone_field name p (a_sint w e) = ap (λ s. (field_of_layer name p (out-Shape s)).typ) e
lone_field name p (an_async e) = ap (λ s. (field_of_layer name p (out-Shape s)).typ) e

lone_element : (p : Part) → IsLone p.typ → (element_part p).typ ≡ p.typ
unfolding out-Shape denote.Hole.Carrier.out
lone_element p (a_uint w e) = ap (λ s. (element_of_layer p (out-Shape s)).typ) e
lone_element p (a_sint w e) = ap (λ s. (element_of_layer p (out-Shape s)).typ) e
lone_element p (an_async e) = ap (λ s. (element_of_layer p (out-Shape s)).typ) e

bit_field : (name : ℕ) → field_type name one_bit ≡ one_bit
unfolding out-Shape denote.Hole.Carrier.out
bit_field name = refl

bit_element : element_type one_bit ≡ one_bit
unfolding out-Shape denote.Hole.Carrier.out
bit_element = refl

field_alike : (name : ℕ) (t : FirType) (p : Part) → Alike t p.typ → Alike (field_type name t) (field_part name p).typ
field_alike name t p h = ⊎_elim
    (λ e. inl (ap (field_type name) e ∙ field_layer name p (out-Shape p.typ.shape)))
    (λ l. inr (ap (field_type name) l.0 ∙ bit_field name, subst IsLone (sym (lone_field name p l.1)) l.1)) h

element_alike : (t : FirType) (p : Part) → Alike t p.typ → Alike (element_type t) (element_part p).typ
element_alike t p h = ⊎_elim
    (λ e. inl (ap element_type e ∙ element_layer p (out-Shape p.typ.shape)))
    (λ l. inr (ap element_type l.0 ∙ bit_element, subst IsLone (sym (lone_element p l.1)) l.1)) h

-- Expressions

abbrev form_weight : Form → Weighs
form_weight = fold-Form Weighs weighing.Step Weighs weighing.of_form weighing.of_suffix weighing.of_expr

abbrev form_measured : Form → Place → sources.Among
form_measured = fold-Form (Place → sources.Among) (Component → Component) sources.Among sources.of_form sources.of_suffix sources.of_expr

abbrev form_shaped : Form → Bool
form_shaped = fold-Form Bool Bool Bool shaping.of_form shaping.of_suffix shaping.of_expr

abbrev suffix_shaped : Suffix → Bool
suffix_shaped = Rattle.fir_tree.specs.declared.expr.Suffix.fold-Suffix Bool Bool Bool shaping.of_form shaping.of_suffix shaping.of_expr

-- a choice has three operands
three : (bs : List Bool) → shaping.of_form (Form-F.Mux bs) ≡ true → length bs ≡ 3
three bs e = eqb-true (length bs) 3 (and_right (shaping.all_are bs) (nat_eq (length bs) 3) e)

module _ (types : Typing) (known : sources.Known) (same : (name : ℕ) → Alike (types name) (sources.component known name).part.typ) where
  abbrev FormAlike : Form → Type 0
  FormAlike φ = form_shaped φ ≡ true → (place : Place) → Alike (form_weight φ types).typ (form_measured φ place known).part.typ

  abbrev SuffixAlike : Suffix → Type 0
  SuffixAlike s = (w : Weight) (c : Component) → Alike w.typ c.part.typ → Alike (weighing.suffix_step s types w).typ (sources.suffix_step s c).part.typ

  abbrev ExprAlike : Expr → Type 0
  ExprAlike e = is_shaped e ≡ true → Alike (weight e types).typ (measured e known).part.typ

  abbrev weight_layer : Form-F Form Suffix Expr → Weighs
  weight_layer z = weighing.of_form (map-Form Form Suffix Expr Weighs weighing.Step Weighs form_weight weighing.suffix_step weight z)

  abbrev measured_layer : Form-F Form Suffix Expr → Place → sources.Among
  measured_layer z = sources.of_form (map-Form Form Suffix Expr (Place → sources.Among) (Component → Component) sources.Among form_measured sources.suffix_step measured z)

  abbrev shaped_layer : Form-F Form Suffix Expr → Bool
  shaped_layer z = shaping.of_form (map-Form Form Suffix Expr Bool Bool Bool form_shaped suffix_shaped is_shaped z)

  form_rolled : (z : Form-F Form Suffix Expr) → (shaped_layer z ≡ true → (place : Place) → Alike (weight_layer z types).typ (measured_layer z place known).part.typ) → FormAlike (roll-Form z)
  form_rolled z h e place =
      subst (λ f. Alike (f types).typ (form_measured (roll-Form z) place known).part.typ) (sym (fold-roll-Form Weighs weighing.Step Weighs weighing.of_form weighing.of_suffix weighing.of_expr z))
      (subst (λ f. Alike (weight_layer z types).typ (f place known).part.typ) (sym (fold-roll-Form (Place → sources.Among) (Component → Component) sources.Among sources.of_form sources.of_suffix sources.of_expr z))
      (h (sym (fold-roll-Form Bool Bool Bool shaping.of_form shaping.of_suffix shaping.of_expr z) ∙ e) place))

  steps_alike : (ps : List ((s : Suffix) × SuffixAlike s)) (w : Weight) (c : Component) → Alike w.typ c.part.typ
      → Alike (fold (λ (x : Weight) (step : weighing.Step). step types x) w (map weighing.suffix_step (map (λ p. p.0) ps))).typ (sources.named (map sources.suffix_step (map (λ p. p.0) ps)) c).part.typ
  steps_alike [] w c h = h
  steps_alike (p ∷ ps) w c h = steps_alike ps (weighing.suffix_step p.0 types w) (sources.suffix_step p.0 c) (p.1 w c h)

  choice_alike : (place : Place) (ps : List ((e : Expr) × ExprAlike e)) → shaped_layer (Form-F.Mux (map (λ p. p.0) ps)) ≡ true
      → Alike (weight_layer (Form-F.Mux (map (λ p. p.0) ps)) types).typ (measured_layer (Form-F.Mux (map (λ p. p.0) ps)) place known).part.typ
  choice_alike place [] e = cc
  choice_alike place (a ∷ []) e = absurd (false≢true (and_right _ _ e))
  choice_alike place (a ∷ b ∷ []) e = absurd (false≢true (and_right _ _ e))
  choice_alike place (a ∷ b ∷ c ∷ []) e = b.1 (and_left _ _ (and_right (is_shaped a.0) _ (and_left _ _ e)))
  choice_alike place (a ∷ b ∷ c ∷ d ∷ ps) e = absurd (never (length (map is_shaped (map (λ p. p.0) ps))) (three (map is_shaped (map (λ p. p.0) (a ∷ b ∷ c ∷ d ∷ ps))) e))
    where
      never : (n : ℕ) → suc (suc (suc (suc n))) ≡ 3 → ⊥
      never n is = omega (arith, is)

  form_case : (y : Form-F ((φ : Form) × FormAlike φ) ((s : Suffix) × SuffixAlike s) ((e : Expr) × ExprAlike e))
      → FormAlike (roll-Form (map-Form _ _ _ Form Suffix Expr (λ e. e.0) (λ e. e.0) (λ e. e.0) y))
  form_case (Form-F.Ref name ps) = form_rolled _ (λ e place. steps_alike ps (weighing.whole (types name.id)) (sources.component known name.id) (same name.id))
  form_case (Form-F.Literal kind width n) = form_rolled _ (λ e place. inr (refl, ground_lone place kind width))
  form_case (Form-F.Prim prim ps params) = form_rolled _ (λ e place. inr (refl, result_lone prim place _))
  form_case (Form-F.Mux ps) = form_rolled _ (λ e place. choice_alike place ps e)

  abbrev step_weight : Suffix-F Form Suffix Expr → weighing.Step
  step_weight z = weighing.of_suffix (map-Suffix Form Suffix Expr Weighs weighing.Step Weighs form_weight weighing.suffix_step weight z)

  abbrev step_measured : Suffix-F Form Suffix Expr → Component → Component
  step_measured z = sources.of_suffix (map-Suffix Form Suffix Expr (Place → sources.Among) (Component → Component) sources.Among form_measured sources.suffix_step measured z)

  suffix_rolled : (z : Suffix-F Form Suffix Expr) → ((w : Weight) (c : Component) → Alike w.typ c.part.typ → Alike (step_weight z types w).typ (step_measured z c).part.typ) → SuffixAlike (roll-Suffix z)
  suffix_rolled z h w c e =
      subst (λ f. Alike (f types w).typ (sources.suffix_step (roll-Suffix z) c).part.typ) (sym (fold-roll-Suffix Weighs weighing.Step Weighs weighing.of_form weighing.of_suffix weighing.of_expr z))
      (subst (λ f. Alike (step_weight z types w).typ (f c).part.typ) (sym (fold-roll-Suffix (Place → sources.Among) (Component → Component) sources.Among sources.of_form sources.of_suffix sources.of_expr z)) (h w c e))

  suffix_case : (y : Suffix-F ((φ : Form) × FormAlike φ) ((s : Suffix) × SuffixAlike s) ((e : Expr) × ExprAlike e))
      → SuffixAlike (roll-Suffix (map-Suffix _ _ _ Form Suffix Expr (λ e. e.0) (λ e. e.0) (λ e. e.0) y))
  suffix_case (Suffix-F.Field name) = suffix_rolled _ (λ w c e. field_alike name.id w.typ c.part e)
  suffix_case (Suffix-F.At bracket at n) = suffix_rolled _ (λ w c e. element_alike w.typ c.part e)
  suffix_case (Suffix-F.Index bracket index) = suffix_rolled _ (λ w c e. element_alike w.typ c.part e)

  expr_case : (y : Expr-F ((φ : Form) × FormAlike φ) ((s : Suffix) × SuffixAlike s) ((e : Expr) × ExprAlike e))
      → ExprAlike (roll-Expr (map-Expr _ _ _ Form Suffix Expr (λ e. e.0) (λ e. e.0) (λ e. e.0) y))
  expr_case y e =
      let z = map-Expr ((φ : Form) × FormAlike φ) ((s : Suffix) × SuffixAlike s) ((e : Expr) × ExprAlike e) Form Suffix Expr (λ e. e.0) (λ e. e.0) (λ e. e.0) y in
      subst (λ f. Alike (f types).typ (measured (roll-Expr z) known).part.typ) (sym (fold-roll-Expr Weighs weighing.Step Weighs weighing.of_form weighing.of_suffix weighing.of_expr z))
      (subst (λ f. Alike (form_weight y.form.0 types).typ (f known).part.typ) (sym (fold-roll-Expr (Place → sources.Among) (Component → Component) sources.Among sources.of_form sources.of_suffix sources.of_expr z))
      (y.form.1 (sym (fold-roll-Expr Bool Bool Bool shaping.of_form shaping.of_suffix shaping.of_expr z) ∙ e) y.place))

  -- An expression has as many leaves for the measure as for the widths, at the same ways.
  pub expr_alike : (e : Expr) → ExprAlike e
  expr_alike = ind-Expr FormAlike SuffixAlike ExprAlike
      (λ x y is. subst (λ z. FormAlike (roll-Form z)) is (form_case y))
      (λ x y is. subst (λ z. SuffixAlike (roll-Suffix z)) is (suffix_case y))
      (λ x y is. subst (λ z. ExprAlike (roll-Expr z)) is (expr_case y))
