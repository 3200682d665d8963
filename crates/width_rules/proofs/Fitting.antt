-- All variables of expressions, components and rules are below a number.
use Rattle.std.proofs.Common.{ℕ, Bool, true, false, List, [], ◌∷◌, ◌++◌, map, Some, is_some, if◌then◌else◌, nat_eq, cond, sym, subst}
use Rattle.std.specs.Map.{lookup}
use Rattle.place_text.specs.declared.place.Place.{Place}
use Rattle.bit_words.specs.Numbers.{integer_of_number}
use Rattle.fir_tree.specs.declared.expr.Expr.{Expr, roll-Expr, map-Expr}
use Rattle.fir_tree.specs.declared.expr.Form.{Form, fold-Form, roll-Form, map-Form}
use Rattle.fir_tree.specs.declared.expr.Suffix.{Suffix, roll-Suffix, map-Suffix}
use Rattle.fir_tree.specs.declared.expr.Form.TheOpen.{Form-F, Suffix-F, Expr-F}
use Rattle.fir_tree.specs.declared.expr.Form.TheFolds.{ind-Expr, fold-roll-Form, fold-roll-Suffix, fold-roll-Expr}
use Rattle.width_rules.specs.declared.component.Component.{Component}
use Rattle.width_rules.specs.Places.{capped}
use Rattle.width_rules.specs.Sources.{Known, Among, component, component_or_none, known_with, named, measured, suffix_step, literal_bits, of_form, of_suffix, of_expr}
use Rattle.width_rules.proofs.Bounds.{Each, each_append, fixed_is, SlotsFit, FormulasFit, slot_formulas, step_fits, MeasureFits, operation_fits, choice_fits}

-- Components

abbrev pub KnownFits : ℕ → Known → Type 0
KnownFits count known = Each (λ e. SlotsFit count e.1.slots) known

found_fits : (count : ℕ) (known : Known) (name : ℕ) → KnownFits count known → SlotsFit count (component known name).slots
found_fits count [] name h = tt
found_fits count (e ∷ known) name h = by (nat_eq name e.0) (found_fits count known name h.1)
  where
    by : (b : Bool) → SlotsFit count (component known name).slots → SlotsFit count (component_or_none (cond b (Some e.1) (lookup (nat_eq name) known))).slots
    by true rest = h.0
    by false rest = rest

pub component_fits : (count : ℕ) (known : Known) (name : ℕ) → KnownFits count known → SlotsFit count (component known name).slots
component_fits count known name h = found_fits count known name h

pub with_fits : (count : ℕ) (known : Known) (name : ℕ) (sized : Component) → KnownFits count known → SlotsFit count sized.slots → KnownFits count (known_with known name sized)
with_fits count known name sized h k = by (is_some (lookup (nat_eq name) known))
  where
    by : (b : Bool) → KnownFits count (if b then known else known ++ (name, sized) ∷ [])
    by true = h
    by false = each_append (λ (e : ℕ × Component). SlotsFit count e.1.slots) known ((name, sized) ∷ []) h (k, tt)

-- Expressions

abbrev form_measured : Form → Place → Among
form_measured = fold-Form (Place → Among) (Component → Component) Among of_form of_suffix of_expr

abbrev FormFits : ℕ → Form → Type 0
FormFits count f = (place : Place) (known : Known) → KnownFits count known → MeasureFits count (form_measured f place known)

abbrev SuffixFits : ℕ → Suffix → Type 0
SuffixFits count s = (base : Component) → SlotsFit count base.slots → SlotsFit count (suffix_step s base).slots

abbrev ExprFits : ℕ → Expr → Type 0
ExprFits count e = (known : Known) → KnownFits count known → MeasureFits count (measured e known)

named_fits : (count : ℕ) (ss : List ((s : Suffix) × SuffixFits count s)) (base : Component) → SlotsFit count base.slots
    → SlotsFit count (named (map suffix_step (map (λ (e : (s : Suffix) × SuffixFits count s). e.0) ss)) base).slots
named_fits count [] base h = h
named_fits count (s ∷ ss) base h = named_fits count ss (suffix_step s.0 base) (s.1 base h)

all_fit : (count : ℕ) (es : List ((e : Expr) × ExprFits count e)) (known : Known) → KnownFits count known
    → Each (MeasureFits count) (map (λ (among : Among). among known) (map measured (map (λ (e : (x : Expr) × ExprFits count x). e.0) es)))
all_fit count [] known h = tt
all_fit count (e ∷ es) known h = (e.1 known h, all_fit count es known h)

abbrev AForm : ℕ → Type 0
AForm count = (f : Form) × FormFits count f

abbrev ASuffix : ℕ → Type 0
ASuffix count = (s : Suffix) × SuffixFits count s

abbrev AnExpr : ℕ → Type 0
AnExpr count = (e : Expr) × ExprFits count e

form_rolled : (count : ℕ) (z : Form-F Form Suffix Expr)
    → ((place : Place) (known : Known) → KnownFits count known → MeasureFits count (of_form (map-Form Form Suffix Expr (Place → Among) (Component → Component) Among form_measured suffix_step measured z) place known))
    → FormFits count (roll-Form z)
form_rolled count z h = subst (λ (f : Place → Among). (place : Place) (known : Known) → KnownFits count known → MeasureFits count (f place known))
    (sym (fold-roll-Form (Place → Among) (Component → Component) Among of_form of_suffix of_expr z)) h

form_step : (count : ℕ) (y : Form-F (AForm count) (ASuffix count) (AnExpr count))
    → FormFits count (roll-Form (map-Form (AForm count) (ASuffix count) (AnExpr count) Form Suffix Expr (λ e. e.0) (λ e. e.0) (λ e. e.0) y))
form_step count (Form-F.Ref name suffixes) = form_rolled count _ (λ place known h.
    slot_formulas count (named (map suffix_step (map (λ (e : ASuffix count). e.0) suffixes)) (component known name.id)).slots (named_fits count suffixes (component known name.id) (component_fits count known name.id h)))
form_step count (Form-F.Literal kind width number) = form_rolled count _ (λ place known h. (fixed_is count (capped (literal_bits kind (integer_of_number number) width)), tt))
form_step count (Form-F.Prim op operands params) = form_rolled count _ (λ place known h.
    (operation_fits count op (map (λ (among : Among). among known) (map measured (map (λ (e : AnExpr count). e.0) operands))) params (all_fit count operands known h), tt))
form_step count (Form-F.Mux operands) = form_rolled count _ (λ place known h.
    choice_fits count (map (λ (among : Among). among known) (map measured (map (λ (e : AnExpr count). e.0) operands))) (all_fit count operands known h))

suffix_rolled : (count : ℕ) (z : Suffix-F Form Suffix Expr)
    → ((base : Component) → SlotsFit count base.slots → SlotsFit count (of_suffix (map-Suffix Form Suffix Expr (Place → Among) (Component → Component) Among form_measured suffix_step measured z) base).slots)
    → SuffixFits count (roll-Suffix z)
suffix_rolled count z h = subst (λ (f : Component → Component). (base : Component) → SlotsFit count base.slots → SlotsFit count (f base).slots)
    (sym (fold-roll-Suffix (Place → Among) (Component → Component) Among of_form of_suffix of_expr z)) h

suffix_fits : (count : ℕ) (y : Suffix-F (AForm count) (ASuffix count) (AnExpr count))
    → SuffixFits count (roll-Suffix (map-Suffix (AForm count) (ASuffix count) (AnExpr count) Form Suffix Expr (λ e. e.0) (λ e. e.0) (λ e. e.0) y))
suffix_fits count (Suffix-F.Field name) = suffix_rolled count _ (λ base h. step_fits count name.id base.part.typ base.slots h)
suffix_fits count (Suffix-F.At bracket at n) = suffix_rolled count _ (λ base h. h)
suffix_fits count (Suffix-F.Index bracket index) = suffix_rolled count _ (λ base h. h)

expr_step : (count : ℕ) (y : Expr-F (AForm count) (ASuffix count) (AnExpr count))
    → ExprFits count (roll-Expr (map-Expr (AForm count) (ASuffix count) (AnExpr count) Form Suffix Expr (λ e. e.0) (λ e. e.0) (λ e. e.0) y))
expr_step count y = subst (λ (f : Among). (known : Known) → KnownFits count known → MeasureFits count (f known))
    (sym (fold-roll-Expr (Place → Among) (Component → Component) Among of_form of_suffix of_expr (map-Expr (AForm count) (ASuffix count) (AnExpr count) Form Suffix Expr (λ e. e.0) (λ e. e.0) (λ e. e.0) y)))
    (λ known h. y.form.1 y.place known h)

pub measured_fits : (count : ℕ) (e : Expr) (known : Known) → KnownFits count known → FormulasFit count (measured e known).formulas
measured_fits count = ind-Expr (FormFits count) (SuffixFits count) (ExprFits count)
    (λ x y is. subst (λ z. FormFits count (roll-Form z)) is (form_step count y))
    (λ x y is. subst (λ z. SuffixFits count (roll-Suffix z)) is (suffix_fits count y))
    (λ x y is. subst (λ z. ExprFits count (roll-Expr z)) is (expr_step count y))
