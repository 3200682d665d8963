-- Parts of components, expressions and operands as the code holds them.
use Rattle.std.specs.Prelude.{ℕ, nat_eq, ◌&&◌, is_some, if◌then◌else◌, List, [], ◌∷◌, length}
use Rattle.bit_words.specs.declared.value.Kind.{Kind}
use Rattle.place_text.specs.declared.place.Place.{Place}
use Rattle.prim_ops.specs.declared.operation.PrimOp.{PrimOp}
use Rattle.prim_ops.specs.Operations.{arity_of}
use Rattle.prim_ops.specs.Kinds.{row_kind}
use Rattle.fir_tree.specs.Parts.{part_of, source_of}
use Rattle.fir_tree.specs.Kinds.{sign_or_unsigned}
use Rattle.width_rules.specs.declared.component.Component.{Component}
use Rattle.width_rules.specs.declared.rule.Formula.{Formula}
use Rattle.width_rules.specs.declared.rule.Formula.TheVariants as formula
use Rattle.width_rules.specs.declared.steps.View.{View}
use Rattle.width_rules.specs.declared.measuring.Measure.{Measure}
use Rattle.width_rules.specs.Sources.{Measured, result_type}
use Rattle.width_rules.specs.Pieces.{slots_in}

-- the part that is looked at
abbrev pub viewed : View → Component
viewed view = record { part = record { typ = view.known.typ.now; flow = view.flow }; slots = slots_in view.slots }

abbrev pub measured_by : Measure → Measured
measured_by measure = record { part = part_of measure.known.typ measure.flow; formulas = measure.formulas.list }

-- an operation over the kinds and the formulas of its operands
abbrev pub formula_over : PrimOp → List Kind → List Formula → List ℕ → Formula
formula_over op kinds formulas params = if is_some (row_kind op kinds) && nat_eq (length params) (arity_of op).1 then formula.Op op kinds formulas params else formula.Fixed 0

abbrev pub operation_over : PrimOp → Place → List Kind → List Formula → List ℕ → Measured
operation_over op place kinds formulas params = record {
  part = source_of (result_type op place (sign_or_unsigned (row_kind op kinds)));
  formulas = formula_over op kinds formulas params ∷ [];
}
