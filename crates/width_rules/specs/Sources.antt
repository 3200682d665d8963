-- The widths of expressions by the variables (FIRRTL specification 3.0, "Width Inference", "Primitive Operations", "References").
use Rattle.std.specs.Prelude.{ℕ, zero, suc, nat_eq, ◌&&◌, is_some, if◌then◌else◌, List, [], ◌∷◌, ◌++◌, map, length, zip, fold, Option, Some, None, ℤ}
use Rattle.std.specs.Map.{lookup}
use Rattle.bit_words.specs.declared.value.Kind.{Kind}
use Rattle.bit_words.specs.Numbers.{integer_of_number}
use Rattle.place_text.specs.declared.place.Place.{Place}
use Rattle.fir_types.specs.declared.fir_type.FirType.{FirType}
use Rattle.fir_types.specs.declared.fir_type.Shape.TheVariants as shape
use Rattle.prim_ops.specs.declared.operation.PrimOp.{PrimOp}
use Rattle.prim_ops.specs.declared.operation.PrimOp.TheVariants.{AsAsyncReset}
use Rattle.prim_ops.specs.Operations.{arity_of}
use Rattle.prim_ops.specs.Kinds.{row_kind}
use Rattle.fir_tree.specs.declared.expr.Expr.{Expr, fold-Expr}
use Rattle.fir_tree.specs.declared.expr.Suffix.{Suffix, fold-Suffix}
use Rattle.fir_tree.specs.declared.expr.Form.TheOpen.{Form-F, Suffix-F, Expr-F}
use Rattle.fir_tree.specs.declared.part.Part.{Part}
use Rattle.fir_tree.specs.Parts.{source_of, no_part, field_part, element_part}
use Rattle.fir_tree.specs.Kinds.{sign_of, holds, ground, sign_or_unsigned}
use Rattle.width_rules.specs.declared.component.Component.{Component}
use Rattle.width_rules.specs.declared.slot.Slot.{Slot}
use Rattle.width_rules.specs.declared.slot.Slot.TheVariants as slot
use Rattle.width_rules.specs.declared.rule.Formula.{Formula}
use Rattle.width_rules.specs.declared.rule.Formula.TheVariants as formula
use Rattle.width_rules.specs.Places.{capped, slots_of_field}

-- the components that are declared so far, by the numbers of their names
abbrev pub Known : Type 0
Known = List (ℕ × Component)

abbrev pub component_or_none : Option Component → Component
component_or_none (Some sized) = sized
component_or_none None = record { part = no_part; slots = [] }

abbrev pub component : Known → ℕ → Component
component known name = component_or_none (lookup (nat_eq name) known)

-- one more component: of one name the first counts
abbrev pub known_with : Known → ℕ → Component → Known
known_with known name sized = if is_some (lookup (nat_eq name) known) then known else known ++ (name, sized) ∷ []

-- The steps of a reference: the elements of a vector share their widths.
abbrev pub field_step : ℕ → Component → Component
field_step name base = record { part = field_part name base.part; slots = slots_of_field name base.part.typ base.slots }

abbrev pub element_step : Component → Component
element_step base = record { part = element_part base.part; slots = base.slots }

abbrev pub named : List (Component → Component) → Component → Component
named steps base = fold (λ part step. step part) base steps

-- A width of a component as a formula.
abbrev pub formula_of : Slot → Formula
formula_of (slot.Fixed n) = formula.Fixed n
formula_of (slot.Var x) = formula.Var x

-- An expression: its type with its flow, and a formula for each of its type's places.
pub record Measured : Type 0 where
  pub part : Part
  pub formulas : List Formula

abbrev pub Among : Type 0
Among = Known → Measured

-- the least width from this one on, and at most so much above it, that holds a number
abbrev pub least_holding : Kind → ℤ → ℕ → ℕ → ℕ
least_holding kind n from zero = from
least_holding kind n from (suc more) = if holds kind from n then from else least_holding kind n (suc from) more

-- The bits of a literal's width: those that it gives, or the least from 1 on that hold it. They are at most 129, which is over the limit.
abbrev pub literal_bits : Kind → ℤ → Option ℕ → ℕ
literal_bits kind n (Some width) = width
literal_bits kind n None = least_holding kind n 1 128

-- the one formula of what is no bundle and no vector
abbrev pub lone : List Formula → Formula
lone [] = formula.Fixed 0
lone (f ∷ fs) = f

abbrev pub kind_of : Measured → Kind
kind_of e = sign_or_unsigned (sign_of e.part.typ)

-- The formula of an operation. In a circuit without a fault it has a row, and as many parameters as the row takes.
abbrev pub operation_formula : PrimOp → List Measured → List ℕ → Formula
operation_formula op operands params =
    if is_some (row_kind op (map kind_of operands)) && nat_eq (length params) (arity_of op).1
    then formula.Op op (map kind_of operands) (map (λ e. lone e.formulas) operands) params else formula.Fixed 0

-- the type of an operation's result of this kind: that of a cast to AsyncReset is one
abbrev pub result_type : PrimOp → Place → Kind → FirType
result_type AsAsyncReset place kind = record { place = place; shape = shape.AsyncReset }
result_type op place kind = ground place kind None

abbrev pub operation : PrimOp → Place → List Measured → List ℕ → Measured
operation op place operands params = record {
  part = source_of (result_type op place (sign_or_unsigned (row_kind op (map kind_of operands))));
  formulas = operation_formula op operands params ∷ [];
}

-- A choice has, place by place, the greater of the widths of its second and its third operand.
abbrev pub greater_of : Formula × Formula → Formula
greater_of both = formula.Greatest (both.0 ∷ both.1 ∷ [])

abbrev pub choice : List Measured → Measured
choice (condition ∷ first ∷ second ∷ []) = record { part = source_of first.part.typ; formulas = map greater_of (zip first.formulas second.formulas) }
choice _ = record { part = no_part; formulas = [] }

abbrev pub measured_reference : Component → Measured
measured_reference sized = record { part = sized.part; formulas = map formula_of sized.slots }

abbrev pub of_form : Form-F (Place → Among) (Component → Component) Among → Place → Among
of_form (Form-F.Ref name suffixes) place known = measured_reference (named suffixes (component known name.id))
of_form (Form-F.Literal kind width number) place known =
    record { part = source_of (ground place kind width); formulas = formula.Fixed (capped (literal_bits kind (integer_of_number number) width)) ∷ [] }
of_form (Form-F.Prim op operands params) place known = operation op place (map (λ e. e known) operands) params
of_form (Form-F.Mux operands) place known = choice (map (λ e. e known) operands)

abbrev pub of_suffix : Suffix-F (Place → Among) (Component → Component) Among → Component → Component
of_suffix (Suffix-F.Field name) base = field_step name.id base
of_suffix (Suffix-F.At bracket at n) base = element_step base
of_suffix (Suffix-F.Index bracket index) base = element_step base

abbrev pub of_expr : Expr-F (Place → Among) (Component → Component) Among → Among
of_expr e = e.form e.place

abbrev pub measured : Expr → Among
measured = fold-Expr (Place → Among) (Component → Component) Among of_form of_suffix of_expr

abbrev pub suffix_step : Suffix → Component → Component
suffix_step = fold-Suffix (Place → Among) (Component → Component) Among of_form of_suffix of_expr
