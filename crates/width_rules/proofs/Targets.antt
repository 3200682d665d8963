-- Where no width is a variable, no formula of an expression is one.
use Rattle.std.proofs.Common.{◌≡◌, false, ◌||◌, List, [], ◌∷◌, ◌++◌, map, zip, refl, ap, ◌∙◌, subst, arith}
use Rattle.std.proofs.lemmas.Bool.{or_from, true≢false}
use Rattle.std.proofs.lemmas.List.Folds.{list_any-append}
use Rattle.fir_types.specs.declared.name.Name.{Name}
use Rattle.fir_types.specs.Bundles.{nowhere}
use Rattle.fir_tree.specs.declared.expr.Expr.{Expr}
use Rattle.fir_tree.specs.declared.expr.Suffix.{Suffix}
use Rattle.fir_tree.specs.declared.expr.Form.TheVariants as form
use Rattle.width_rules.specs.declared.component.Component.{Component}
use Rattle.width_rules.specs.declared.slot.Slot.{Slot}
use Rattle.width_rules.specs.declared.slot.Slot.TheVariants as slot
use Rattle.width_rules.specs.declared.rule.Formula.{Formula}
use Rattle.width_rules.specs.declared.rule.Formula.TheVariants as formula
use Rattle.width_rules.specs.Formulas.{IsFormula}
use Rattle.width_rules.specs.Sources.{Known, Measured, measured, component, measured_reference, formula_of, named, suffix_step, greater_of, choice}
use Rattle.width_rules.specs.Targets.{is_variable, has_variable, is_target, has_target}
use Rattle.width_rules.proofs.Bounds.{SlotsFit, FormulasFit, var_below}
use Rattle.width_rules.proofs.Fitting.{measured_fits}
use Rattle.width_rules.proofs.Expressions.{measured-ref, measured-mux}

-- Expressions

none_fit : (slots : List Slot) → has_variable slots ≡ false → SlotsFit 0 slots
none_fit [] h = tt
none_fit (slot.Fixed n ∷ ss) h = (tt, none_fit ss h)
none_fit (slot.Var x ∷ ss) h = absurd (true≢false h)

none_of : (f : Formula) → IsFormula 0 f → is_target f ≡ false
none_of (formula.Var x) h = absurd (omega (arith, var_below 0 x h))
none_of f h = refl

none_among : (fs : List Formula) → FormulasFit 0 fs → has_target fs ≡ false
none_among [] h = refl
none_among (f ∷ fs) h = or_from (is_target f) (has_target fs) (none_of f h.0) (none_among fs h.1)

-- the part of a component that has no variable
pub part_has_none : (suffixes : List Suffix) (base : Component) → has_variable base.slots ≡ false → has_target (measured_reference (named (map suffix_step suffixes) base)).formulas ≡ false
part_has_none suffixes base h =
    let name : Name = record { id = 0; place = nowhere } in
    let e : Expr = record { place = nowhere; form = form.Ref name suffixes } in
    let alone : Known = (0, base) ∷ [] in
    subst (λ m. has_target m.formulas ≡ false) (measured-ref e name suffixes alone refl) (none_among (measured e alone).formulas (measured_fits 0 e alone (none_fit base.slots h, tt)))

-- formulas have a variable where the widths have one
pub same_targets : (slots : List Slot) → has_target (map formula_of slots) ≡ has_variable slots
same_targets [] = refl
same_targets (slot.Fixed n ∷ ss) = same_targets ss
same_targets (slot.Var x ∷ ss) = refl

pub has_variable-append : (slots more : List Slot) → has_variable (slots ++ more) ≡ (has_variable slots || has_variable more)
has_variable-append = list_any-append is_variable

pub reference_has_none : (e : Expr) (name : Name) (suffixes : List Suffix) (known : Known) → e.form ≡ form.Ref name suffixes
    → has_target (measured_reference (named (map suffix_step suffixes) (component known name.id))).formulas ≡ false → has_target (measured e known).formulas ≡ false
reference_has_none e name suffixes known is h = ap (λ m. has_target m.formulas) (measured-ref e name suffixes known is) ∙ h

greater_none : (fs gs : List Formula) → has_target (map greater_of (zip fs gs)) ≡ false
greater_none [] gs = refl
greater_none (f ∷ fs) [] = refl
greater_none (f ∷ fs) (g ∷ gs) = greater_none fs gs

choice_none : (ms : List Measured) → has_target (choice ms).formulas ≡ false
choice_none [] = refl
choice_none (a ∷ []) = refl
choice_none (a ∷ b ∷ []) = refl
choice_none (a ∷ b ∷ c ∷ []) = greater_none b.formulas c.formulas
choice_none (a ∷ b ∷ c ∷ d ∷ ms) = refl

pub mux_has_none : (e : Expr) (operands : List Expr) (known : Known) → e.form ≡ form.Mux operands → has_target (measured e known).formulas ≡ false
mux_has_none e operands known is = ap (λ m. has_target m.formulas) (measured-mux e operands known is) ∙ choice_none (map (λ x. measured x known) operands)
