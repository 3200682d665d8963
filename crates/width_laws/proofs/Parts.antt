-- The type of an expression is told by the parts of components, whatever their widths.
use Rattle.std.proofs.Common.{◌≡◌, ℕ, Bool, true, false, cond, List, [], ◌∷◌, ◌++◌, map, Some, None, refl, sym, ap, ap₂, ◌∙◌, subst}
use Rattle.std.specs.Prelude.{nat_eq, is_some, if◌then◌else◌}
use Rattle.std.specs.Map.{lookup}
use Rattle.std.proofs.lemmas.List.{map-append}
use Rattle.place_text.specs.declared.place.Place.{Place}
use Rattle.prim_ops.specs.Kinds.{row_kind}
use Rattle.fir_tree.specs.declared.expr.Expr.{Expr, ind-Expr}
use Rattle.fir_tree.specs.declared.expr.Form.{Form, fold-Form}
use Rattle.fir_tree.specs.declared.expr.Suffix.{Suffix}
use Rattle.fir_tree.specs.declared.expr.Form.TheOpen.{Form-F, Suffix-F, Expr-F}
use Rattle.fir_tree.specs.declared.expr.Form.TheFolds.{map-Form, map-Suffix, map-Expr, fold-roll-Form, fold-roll-Suffix, fold-roll-Expr}
use Rattle.fir_tree.specs.declared.expr.Form.TheViews.{roll-Form, roll-Suffix, roll-Expr}
use Rattle.fir_tree.specs.declared.part.Part.{Part}
use Rattle.fir_tree.specs.Parts.{source_of, field_part, element_part}
use Rattle.fir_tree.specs.Kinds.{sign_of, sign_or_unsigned}
use Rattle.type_check.specs.Parts as check
use Rattle.width_rules.specs.declared.component.Component.{Component}
use Rattle.width_rules.specs.Sources as sources
use Rattle.width_rules.specs.Sources.{Known, Measured, measured, named, component, component_or_none, kind_of, choice}
use Rattle.width_laws.specs.Declared.{without_widths, type_of}

-- the parts of components
abbrev pub parts_of : Known → check.Known
parts_of known = map (λ (entry : ℕ × Component). (entry.0, entry.1.part)) known

-- Names

found_same : (name : ℕ) (known : Known) → is_some (lookup (nat_eq name) (parts_of known)) ≡ is_some (lookup (nat_eq name) known)
found_same name [] = refl
found_same name (x ∷ known) = by (nat_eq name x.0) (found_same name known) where
  by : (b : Bool) → is_some (lookup (nat_eq name) (parts_of known)) ≡ is_some (lookup (nat_eq name) known)
      → is_some (cond b (Some x.1.part) (lookup (nat_eq name) (parts_of known))) ≡ is_some (cond b (Some x.1) (lookup (nat_eq name) known))
  by true rest = refl
  by false rest = rest

-- one more component
pub known_more : (known : Known) (name : ℕ) (sized : Component) → check.known_with (parts_of known) name (Some sized.part) ≡ parts_of (sources.known_with known name sized)
known_more known name sized =
    ap (λ b. if b then parts_of known else parts_of known ++ (name, sized.part) ∷ []) (found_same name known) ∙ by (is_some (lookup (nat_eq name) known))
  where
    by : (b : Bool) → (if b then parts_of known else parts_of known ++ (name, sized.part) ∷ []) ≡ parts_of (if b then known else known ++ (name, sized) ∷ [])
    by true = refl
    by false = sym (map-append (λ (entry : ℕ × Component). (entry.0, entry.1.part)) known ((name, sized) ∷ []))

part_found : (name : ℕ) (known : Known) → (component (map without_widths (parts_of known)) name).part ≡ (component known name).part
part_found name [] = refl
part_found name (x ∷ known) = by (nat_eq name x.0) (part_found name known) where
  by : (b : Bool) → (component (map without_widths (parts_of known)) name).part ≡ (component known name).part
      → (component_or_none (cond b (Some (record { part = x.1.part; slots = [] })) (lookup (nat_eq name) (map without_widths (parts_of known))))).part
      ≡ (component_or_none (cond b (Some x.1) (lookup (nat_eq name) known))).part
  by true rest = refl
  by false rest = rest

-- Expressions

abbrev form_measured : Form → Place → sources.Among
form_measured = fold-Form (Place → sources.Among) (Component → Component) sources.Among sources.of_form sources.of_suffix sources.of_expr

module _ (one other : Known) (same : (name : ℕ) → (component one name).part ≡ (component other name).part) where
  abbrev FormSame : Form → Type 0
  FormSame φ = (place : Place) → (form_measured φ place one).part ≡ (form_measured φ place other).part

  abbrev SuffixSame : Suffix → Type 0
  SuffixSame s = (a b : Component) → a.part ≡ b.part → (sources.suffix_step s a).part ≡ (sources.suffix_step s b).part

  abbrev ExprSame : Expr → Type 0
  ExprSame e = (measured e one).part ≡ (measured e other).part

  abbrev measured_layer : Form-F Form Suffix Expr → Form-F (Place → sources.Among) (Component → Component) sources.Among
  measured_layer z = map-Form Form Suffix Expr (Place → sources.Among) (Component → Component) sources.Among form_measured sources.suffix_step measured z

  form_rolled : (z : Form-F Form Suffix Expr) → ((place : Place) → (sources.of_form (measured_layer z) place one).part ≡ (sources.of_form (measured_layer z) place other).part) → FormSame (roll-Form z)
  form_rolled z h place =
      ap (λ f. (f place one).part) (fold-roll-Form (Place → sources.Among) (Component → Component) sources.Among sources.of_form sources.of_suffix sources.of_expr z) ∙ h place
      ∙ sym (ap (λ f. (f place other).part) (fold-roll-Form (Place → sources.Among) (Component → Component) sources.Among sources.of_form sources.of_suffix sources.of_expr z))

  named_same : (ps : List ((s : Suffix) × SuffixSame s)) (a b : Component) → a.part ≡ b.part
      → (named (map sources.suffix_step (map (λ p. p.0) ps)) a).part ≡ (named (map sources.suffix_step (map (λ p. p.0) ps)) b).part
  named_same [] a b e = e
  named_same (p ∷ ps) a b e = named_same ps (sources.suffix_step p.0 a) (sources.suffix_step p.0 b) (p.1 a b e)

  kinds_same : (ps : List ((e : Expr) × ExprSame e))
      → map kind_of (map (λ e. e one) (map measured (map (λ p. p.0) ps))) ≡ map kind_of (map (λ e. e other) (map measured (map (λ p. p.0) ps)))
  kinds_same [] = refl
  kinds_same (p ∷ ps) = ap₂ (λ k ks. k ∷ ks) (ap (λ (part : Part). sign_or_unsigned (sign_of part.typ)) p.1) (kinds_same ps)

  choice_same : (ps : List ((e : Expr) × ExprSame e))
      → (choice (map (λ e. e one) (map measured (map (λ p. p.0) ps)))).part ≡ (choice (map (λ e. e other) (map measured (map (λ p. p.0) ps)))).part
  choice_same [] = refl
  choice_same (a ∷ []) = refl
  choice_same (a ∷ b ∷ []) = refl
  choice_same (a ∷ b ∷ c ∷ []) = ap (λ (part : Part). source_of part.typ) b.1
  choice_same (a ∷ b ∷ c ∷ d ∷ ps) = refl

  form_case : (y : Form-F ((φ : Form) × FormSame φ) ((s : Suffix) × SuffixSame s) ((e : Expr) × ExprSame e))
      → FormSame (roll-Form (map-Form _ _ _ Form Suffix Expr (λ e. e.0) (λ e. e.0) (λ e. e.0) y))
  form_case (Form-F.Ref name ps) = form_rolled _ (λ place. named_same ps (component one name.id) (component other name.id) (same name.id))
  form_case (Form-F.Literal kind width n) = form_rolled _ (λ place. refl)
  form_case (Form-F.Prim prim ps params) = form_rolled _ (λ place. ap (λ ks. source_of (sources.result_type prim place (sign_or_unsigned (row_kind prim ks)))) (kinds_same ps))
  form_case (Form-F.Mux ps) = form_rolled _ (λ place. choice_same ps)

  abbrev step_layer : Suffix-F Form Suffix Expr → Suffix-F (Place → sources.Among) (Component → Component) sources.Among
  step_layer z = map-Suffix Form Suffix Expr (Place → sources.Among) (Component → Component) sources.Among form_measured sources.suffix_step measured z

  suffix_rolled : (z : Suffix-F Form Suffix Expr) → ((a b : Component) → a.part ≡ b.part → (sources.of_suffix (step_layer z) a).part ≡ (sources.of_suffix (step_layer z) b).part) → SuffixSame (roll-Suffix z)
  suffix_rolled z h a b e =
      ap (λ f. (f a).part) (fold-roll-Suffix (Place → sources.Among) (Component → Component) sources.Among sources.of_form sources.of_suffix sources.of_expr z) ∙ h a b e
      ∙ sym (ap (λ f. (f b).part) (fold-roll-Suffix (Place → sources.Among) (Component → Component) sources.Among sources.of_form sources.of_suffix sources.of_expr z))

  suffix_case : (y : Suffix-F ((φ : Form) × FormSame φ) ((s : Suffix) × SuffixSame s) ((e : Expr) × ExprSame e))
      → SuffixSame (roll-Suffix (map-Suffix _ _ _ Form Suffix Expr (λ e. e.0) (λ e. e.0) (λ e. e.0) y))
  suffix_case (Suffix-F.Field name) = suffix_rolled _ (λ a b e. ap (field_part name.id) e)
  suffix_case (Suffix-F.At bracket at n) = suffix_rolled _ (λ a b e. ap element_part e)
  suffix_case (Suffix-F.Index bracket index) = suffix_rolled _ (λ a b e. ap element_part e)

  expr_case : (y : Expr-F ((φ : Form) × FormSame φ) ((s : Suffix) × SuffixSame s) ((e : Expr) × ExprSame e))
      → ExprSame (roll-Expr (map-Expr _ _ _ Form Suffix Expr (λ e. e.0) (λ e. e.0) (λ e. e.0) y))
  expr_case y =
      let z = map-Expr ((φ : Form) × FormSame φ) ((s : Suffix) × SuffixSame s) ((e : Expr) × ExprSame e) Form Suffix Expr (λ e. e.0) (λ e. e.0) (λ e. e.0) y in
      ap (λ f. (f one).part) (fold-roll-Expr (Place → sources.Among) (Component → Component) sources.Among sources.of_form sources.of_suffix sources.of_expr z) ∙ y.form.1 y.place
      ∙ sym (ap (λ f. (f other).part) (fold-roll-Expr (Place → sources.Among) (Component → Component) sources.Among sources.of_form sources.of_suffix sources.of_expr z))

  same_part : (e : Expr) → (measured e one).part ≡ (measured e other).part
  same_part = ind-Expr FormSame SuffixSame ExprSame
      (λ x y is. subst (λ z. FormSame (roll-Form z)) is (form_case y))
      (λ x y is. subst (λ z. SuffixSame (roll-Suffix z)) is (suffix_case y))
      (λ x y is. subst (λ z. ExprSame (roll-Expr z)) is (expr_case y))

-- an expression has the type that the width rules give it
pub type_is : (known : Known) (e : Expr) → type_of (parts_of known) e ≡ (measured e known).part.typ
type_is known e = ap (λ (part : Part). part.typ) (same_part (map without_widths (parts_of known)) known (λ name. part_found name known) e)
