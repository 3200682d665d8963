-- What the survey of an expression has in hand and adds, in the words of the definitions.
use Rattle.std.specs.Prelude.{◌≡◌, ℕ, nat_eq, nat_le, not, ◌&&◌, is_some, if◌then◌else◌, List, [], ◌∷◌, ◌++◌, map, flat_map, zip, drop, length, Option, None}
use Rattle.std.specs.List.{list_any}
use Rattle.bit_words.specs.declared.value.Kind.{Kind as Sign}
use Rattle.bit_words.specs.declared.number.Number.{Number}
use Rattle.place_text.specs.declared.place.Place.{Place}
use Rattle.fir_tree.specs.declared.expr.Expr.{Expr}
use Rattle.fir_tree.specs.declared.expr.Suffix.{Suffix}
use Rattle.prim_ops.specs.declared.operation.PrimOp.{PrimOp}
use Rattle.prim_ops.specs.declared.widths.Width.{Width}
use Rattle.prim_ops.specs.declared.widths.Width.TheVariants.{Bits}
use Rattle.prim_ops.specs.Operations.{arity_of}
use Rattle.prim_ops.specs.Kinds.{row_kind}
use Rattle.prim_ops.specs.Widths.{row_width}
use Rattle.fir_tree.specs.Parts.{source_of, no_part}
use Rattle.fir_tree.specs.Kinds.{sign_of, sign_or_unsigned}
use Rattle.width_rules.specs.declared.component.Component.{Component}
use Rattle.width_rules.specs.Formulas.{level}
use Rattle.width_rules.specs.Sources.{Known, result_type, operation, choice, measured_reference, named, component}
use Rattle.width_fit.specs.declared.fault.WidthFault.{WidthFault}
use Rattle.width_fit.specs.declared.fault.WidthFault.TheVariants.{WidthOver, ParameterRange, ConditionWidth}
use Rattle.width_fit.specs.declared.found.Findings.{Findings}
use Rattle.width_fit.specs.declared.found.Surveyed.{Surveyed}
use Rattle.type_filling.specs.Filling.{filled}
use Rattle.part_fits.specs.Widths.{slot_width, is_over, wider_of}
use Rattle.width_fit.specs.Judging.{Survey, survey, surveyed, suffix_step, measured_literal, widths_of, where_, fit_width, parameter_faults, choice_faults}

-- what is kept of a survey
abbrev pub kept : List Width → Survey → Surveyed
kept widths s = record { place = s.place; part = s.measured.part; widths = widths_of widths s.measured }

-- the surveys of several expressions
abbrev pub all_surveys : List Width → Known → List Expr → List Survey
all_surveys widths known es = map (λ e. survey widths e known) es

-- the survey of an index
abbrev pub index_surveys : List Width → Known → Suffix → List Survey
index_surveys widths known suffix = (suffix_step widths suffix).index known

-- The survey of each form.

abbrev pub reference_survey : List Width → Known → Place → ℕ → List Suffix → Survey
reference_survey widths known place name suffixes =
    surveyed widths place (measured_reference (named (map (λ suffix. (suffix_step widths suffix).to) suffixes) (component known name))) [] (flat_map (index_surveys widths known) suffixes)

abbrev pub literal_survey : List Width → Sign → Option ℕ → Number → Place → Survey
literal_survey widths kind width number place = surveyed widths place (measured_literal kind width number place) [] []

abbrev pub operation_survey : List Width → PrimOp → Place → List ℕ → List Survey → Survey
operation_survey widths prim place params all = surveyed widths place (operation prim place (map (λ s. s.measured) all) params) (parameter_faults widths prim place params all) all

abbrev pub choice_survey : List Width → Place → List Survey → Survey
choice_survey widths place all = surveyed widths place (choice (map (λ s. s.measured) all)) (choice_faults widths all) all

-- The same from what is kept of the operands.

abbrev pub lone_of : List Width → Width
lone_of [] = Bits 0
lone_of (w ∷ widths) = w

abbrev pub kept_kind : Surveyed → Sign
kept_kind s = sign_or_unsigned (sign_of s.part.typ)

abbrev pub kept_width : Surveyed → Width
kept_width s = lone_of s.widths

abbrev pub width_in_row : PrimOp → List Sign → List Width → List ℕ → Width
width_in_row prim kinds widths params = if is_some (row_kind prim kinds) && nat_eq (length params) (arity_of prim).1 then row_width prim kinds widths params else Bits 0

abbrev pub operated : PrimOp → Place → List Sign → List Width → List ℕ → Surveyed
operated prim place kinds widths params =
    record { place = place; part = source_of (result_type prim place (sign_or_unsigned (row_kind prim kinds))); widths = width_in_row prim kinds widths params ∷ [] }

abbrev pub chosen : Place → List Surveyed → Surveyed
chosen place (condition ∷ first ∷ second ∷ []) = record { place = place; part = source_of first.part.typ; widths = map wider_of (zip first.widths second.widths) }
chosen place _ = record { place = place; part = no_part; widths = [] }

abbrev pub reference_kept : List Width → Place → Component → Surveyed
reference_kept widths place sized = record { place = place; part = sized.part; widths = map (slot_width widths) sized.slots }

abbrev pub over_faults : Place → List Width → List WidthFault
over_faults place widths = where_ (list_any is_over widths) (WidthOver place)

abbrev pub condition_over : Place → List Width → List WidthFault
condition_over place widths = where_ (not (nat_le (level (lone_of widths)) 1)) (ConditionWidth place)

abbrev pub first_condition : List Surveyed → List WidthFault
first_condition (condition ∷ operands) = condition_over condition.place condition.widths
first_condition [] = []

abbrev pub parameters_over : PrimOp → Place → List ℕ → List Width → List WidthFault
parameters_over prim place params (width ∷ []) = where_ (not (fit_width prim params width)) (ParameterRange place)
parameters_over prim place params _ = []

-- What is added.

pub record Adds (s : Survey) (old new : Findings) : Type 0 where
  pub nodes : new.nodes.items ≡ old.nodes.items ++ s.nodes
  pub faults : new.faults.items ≡ old.faults.items ++ s.faults

pub record AddsAll (all : List Survey) (old new : Findings) : Type 0 where
  pub nodes : new.nodes.items ≡ old.nodes.items ++ flat_map (λ s. s.nodes) all
  pub faults : new.faults.items ≡ old.faults.items ++ flat_map (λ s. s.faults) all

-- the nodes below the expression itself, and all faults
pub record AddsBelow (widths : List Width) (s : Survey) (old new : Findings) : Type 0 where
  pub own : s.nodes ≡ filled s.measured.part.typ (widths_of widths s.measured) ∷ drop 1 s.nodes
  pub nodes : new.nodes.items ≡ old.nodes.items ++ drop 1 s.nodes
  pub faults : new.faults.items ≡ old.faults.items ++ s.faults
