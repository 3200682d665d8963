-- The types of expressions (FIRRTL specification 3.0, "Expressions", "References", "Primitive Operations", "Multiplexers"), by cases
-- on the node. A node has a type where its operands have types and it meets the conditions on them; where they have types and
-- it doesn't, it is at fault; where one has none, it isn't judged.
use Rattle.std.specs.Prelude.{◌≡◌, ℕ, nat_lt, Bool, true, false, ◌&&◌, ◌||◌, if◌then◌else◌, List, [], ◌∷◌, ◌++◌, map, flat_map, find, ◌==◌, Option, Some, None, option_map, is_some, ℤ, pos, int_le}
use Rattle.bit_words.specs.declared.value.Kind.{Kind as Sign}
use Rattle.bit_words.specs.declared.value.Kind.TheVariants.{Unsigned, Signed}
use Rattle.bit_words.specs.Numbers.{integer_of_number}
use Rattle.place_text.specs.declared.place.Place.{Place}
use Rattle.fir_types.specs.declared.fir_type.FirType.{FirType}
use Rattle.fir_types.specs.declared.fir_type.Shape.{Shape}
use Rattle.fir_types.specs.declared.fir_type.Shape.TheOpen.{Shape-F}
use Rattle.fir_types.specs.declared.fir_type.Shape.TheVariants as shape
use Rattle.fir_types.specs.declared.fir_type.Shape.TheViews.{out-Shape}
use Rattle.fir_types.specs.declared.fir_type.Field.{Field}
use Rattle.fir_types.specs.declared.name.Name.{Name}
use Rattle.prim_ops.specs.declared.operation.PrimOp.{PrimOp}
use Rattle.prim_ops.specs.declared.operation.PrimOp.TheVariants.{AsUInt, AsSInt, AsAsyncReset}
use Rattle.prim_ops.specs.Kinds.{row_kind}
use Rattle.fir_tree.specs.declared.expr.Expr.{Expr, fold-Expr}
use Rattle.fir_tree.specs.declared.expr.Suffix.{Suffix, fold-Suffix}
use Rattle.fir_tree.specs.declared.expr.Form.TheOpen.{Form-F, Suffix-F, Expr-F}
use Rattle.fir_tree.specs.declared.part.Part.{Part}
use Rattle.type_check.specs.declared.fault.TypeFault.TheVariants.{FieldUnknown, NotBundle, NotVector, IndexRange, IndexKind, OperandKind, NotEquivalent, ConditionKind, NotPassive, LiteralFit}
use Rattle.type_check.specs.declared.fault.TypeFault.{TypeFault}
use Rattle.type_check.specs.Parts.{Known, component, unless, when, one_fault, typed_without}
use Rattle.fir_tree.specs.Parts.{part_of, source_of, flow_through}
use Rattle.fir_tree.specs.Kinds.{holds, ground, sign_or_unsigned, no_type, sign_of, is_unsigned, is_async}
use Rattle.type_check.specs.Texts.{has_signal, is_passive, are_equivalent}

-- What is found of an expression, or of a reference up to some step: the part with its type, the types of its nodes in
-- text order, and the faults.
pub record Judgement : Type 0 where
  pub part : Option Part
  pub nodes : List FirType
  pub faults : List TypeFault

-- what is found of a part that stands or of a fault, without nodes
abbrev pub stands : Part → Judgement
stands part = record { part = Some part; nodes = []; faults = [] }

abbrev pub fails : List TypeFault → Judgement
fails faults = record { part = None; nodes = []; faults = faults }

abbrev pub type_or_none : Place → Option FirType → FirType
type_or_none place (Some typ) = typ
type_or_none place None = no_type place

-- References, step by step

-- a field of a bundle: the first of the name
abbrev pub field_found : Name → Part → Option Field → Judgement
field_found name base (Some field) = stands (part_of field.typ (flow_through field.flip base.flow))
field_found name base None = fails (one_fault (FieldUnknown name.place))

abbrev pub field_step : Name → Part → Shape-F Shape Field FirType → Judgement
field_step name base (Shape-F.Bundle fields) = field_found name base (find (λ f. f.name.id == name.id) fields)
field_step name base _ = fails (one_fault (NotBundle name.place))

-- an element of a vector by its number
abbrev pub element_found : Part → FirType → Bool → Place → Judgement
element_found base element true at = stands (part_of element base.flow)
element_found base element false at = fails (one_fault (IndexRange at))

abbrev pub element_step : Place → Place → ℕ → Part → Shape-F Shape Field FirType → Judgement
element_step bracket at n base (Shape-F.Vector element length) = element_found base element (nat_lt n length) at
element_step bracket at n base _ = fails (one_fault (NotVector bracket))

-- an element of a vector by an index, which is a UInt
abbrev pub indexed : Place → Part → FirType → Bool → Judgement
indexed at base element true = stands (part_of element base.flow)
indexed at base element false = fails (one_fault (IndexKind at))

abbrev pub index_step : Place → Place → Part → Part → Shape-F Shape Field FirType → Judgement
index_step bracket at index base (Shape-F.Vector element length) = indexed at base element (is_unsigned index.typ)
index_step bracket at index base _ = fails (one_fault (NotVector bracket))

-- what isn't judged
abbrev pub unjudged : Judgement
unjudged = fails []

-- A step from a base that has a type.
abbrev pub from_base : (Part → Judgement) → Option Part → Judgement
from_base step (Some base) = step base
from_base step None = unjudged

-- An expression with its place, among the components that are known.
pub record Judged : Type 0 where
  pub place : Place
  pub among : Known → Judgement

-- A step of a reference, from a base.
abbrev pub Step : Type 0
Step = Known → Option Part → Judgement

-- one judgement behind another
abbrev pub behind : Judgement → Judgement → Judgement
behind first second = record { part = second.part; nodes = first.nodes ++ second.nodes; faults = first.faults ++ second.faults }

-- the steps of a reference in order
abbrev pub along : List Step → Step
along [] known base = record { part = base; nodes = []; faults = [] }
along (step ∷ steps) known base = let first = step known base in behind first (along steps known first.part)

-- a reference as a node
abbrev pub as_node : Place → Judgement → Judgement
as_node place way = record {
  part = way.part;
  nodes = type_or_none place (option_map (λ part. part.typ) way.part) ∷ way.nodes;
  faults = way.faults;
}

-- Literals

-- whether a literal may be written: without a width a UInt is not negative
abbrev pub fits_literal : Sign → Option ℕ → ℤ → Bool
fits_literal sign (Some width) n = holds sign width n
fits_literal Unsigned None n = int_le (pos 0) n
fits_literal Signed None n = true

-- a node that can only be read: its own faults, its type where it has none, and what is found of its operands
abbrev pub node : Place → List TypeFault → FirType → List Judgement → Judgement
node place faults typ operands =
    let own = typed_without faults typ in
    record {
      part = option_map source_of own;
      nodes = type_or_none place own ∷ flat_map (λ j. j.nodes) operands;
      faults = flat_map (λ j. j.faults) operands ++ faults;
    }

-- a node that isn't judged, since an operand has no type
abbrev pub unjudged_node : Place → List Judgement → Judgement
unjudged_node place operands = record {
  part = None;
  nodes = no_type place ∷ flat_map (λ j. j.nodes) operands;
  faults = flat_map (λ j. j.faults) operands;
}

-- Operations and choices

-- an operand with its place and its type
pub record Operand : Type 0 where
  pub place : Place
  pub typ : FirType

abbrev pub with_operand : Option Part → Place → Option (List Operand) → Option (List Operand)
with_operand (Some part) place (Some operands) = Some (record { place = place; typ = part.typ } ∷ operands)
with_operand (Some part) place None = None
with_operand None place operands = None

-- the operands, where each has a type
abbrev pub typed_operands : Known → List Judged → Option (List Operand)
typed_operands known [] = Some []
typed_operands known (e ∷ es) = with_operand (e.among known).part e.place (typed_operands known es)

-- the operations that take an `AsyncReset`, as one bit without a sign
abbrev pub takes_async : PrimOp → Bool
takes_async AsUInt = true
takes_async AsSInt = true
takes_async AsAsyncReset = true
takes_async _ = false

-- the kind of an operand of an operation
abbrev pub sign_for : PrimOp → FirType → Option Sign
sign_for op typ = if takes_async op && is_async typ then Some Unsigned else sign_of typ

abbrev pub with_sign : Option Sign → Option (List Sign) → Option (List Sign)
with_sign (Some sign) (Some signs) = Some (sign ∷ signs)
with_sign (Some sign) None = None
with_sign None signs = None

-- the kinds of the operands of an operation, where it takes each
abbrev pub signs_of : PrimOp → List Operand → Option (List Sign)
signs_of op [] = Some []
signs_of op (operand ∷ operands) = with_sign (sign_for op operand.typ) (signs_of op operands)

-- the kind of the result, where the table has a row for these operands
abbrev pub row_of : PrimOp → Option (List Sign) → Option Sign
row_of op (Some signs) = row_kind op signs
row_of op None = None

-- the type of a result of this kind; it has a width of its own, which is not told here
abbrev pub result_type : PrimOp → Place → Sign → FirType
result_type AsAsyncReset place sign = record { place = place; shape = shape.AsyncReset }
result_type op place sign = ground place sign None

abbrev pub operation : PrimOp → Place → List Judgement → List Operand → Judgement
operation op place operands typed =
    let row = row_of op (signs_of op typed) in
    node place (unless (is_some row) (OperandKind place)) (result_type op place (sign_or_unsigned row)) operands

-- A choice takes a UInt and two passive and equivalent types without a `Clock` or an `AsyncReset`. It has the type of the second
-- operand; its widths are not told here.
abbrev pub choice_faults : Place → Operand → Operand → Operand → List TypeFault
choice_faults place condition first second =
    unless (is_unsigned condition.typ) (ConditionKind condition.place)
    ++ (when (has_signal first.typ || has_signal second.typ) (OperandKind place)
    ++ (unless (is_passive first.typ) (NotPassive first.place)
    ++ (unless (is_passive second.typ) (NotPassive second.place)
    ++ unless (are_equivalent first.typ second.typ) (NotEquivalent second.place))))

abbrev pub choice : Place → List Judgement → List Operand → Judgement
choice place operands (condition ∷ first ∷ second ∷ []) = node place (choice_faults place condition first second) first.typ operands
choice place operands _ = unjudged_node place operands

-- a node over its operands, where all have types
abbrev pub over : Place → (List Judgement → List Operand → Judgement) → List Judgement → Option (List Operand) → Judgement
over place rule operands (Some typed) = rule operands typed
over place rule operands None = unjudged_node place operands

abbrev pub all_among : Known → List Judged → List Judgement
all_among known es = map (λ e. e.among known) es

-- Expressions

abbrev pub of_form : Form-F (Place → Known → Judgement) Step Judged → Place → Known → Judgement
of_form (Form-F.Ref name suffixes) place known = as_node place (along suffixes known (component known name.id))
of_form (Form-F.Literal sign width number) place known =
    node place (unless (fits_literal sign width (integer_of_number number)) (LiteralFit place)) (ground place sign width) []
of_form (Form-F.Prim op operands params) place known = over place (operation op place) (all_among known operands) (typed_operands known operands)
of_form (Form-F.Mux operands) place known = over place (choice place) (all_among known operands) (typed_operands known operands)

-- an index is judged by itself; the step is, where the base and the index have types
abbrev pub from_index : Place → Place → Option Part → Option Part → Judgement
from_index bracket at (Some index) (Some base) = index_step bracket at index base (out-Shape base.typ.shape)
from_index bracket at (Some index) None = unjudged
from_index bracket at None base = unjudged

abbrev pub of_suffix : Suffix-F (Place → Known → Judgement) Step Judged → Step
of_suffix (Suffix-F.Field name) known base = from_base (λ part. field_step name part (out-Shape part.typ.shape)) base
of_suffix (Suffix-F.At bracket at n) known base = from_base (λ part. element_step bracket at n part (out-Shape part.typ.shape)) base
of_suffix (Suffix-F.Index bracket index) known base = let j = index.among known in behind j (from_index bracket index.place j.part base)

abbrev pub of_expr : Expr-F (Place → Known → Judgement) Step Judged → Judged
of_expr e = record { place = e.place; among = e.form e.place }

abbrev pub judged : Expr → Judged
judged = fold-Expr (Place → Known → Judgement) Step Judged of_form of_suffix of_expr

abbrev pub suffix_step : Suffix → Step
suffix_step = fold-Suffix (Place → Known → Judgement) Step Judged of_form of_suffix of_expr

-- what is found of an expression among components
abbrev pub found_of : Known → Expr → Judgement
found_of known e = (judged e).among known

-- The expression has this type.
abbrev pub Has : Known → Expr → FirType → Type 0
Has known e typ = option_map (λ part. part.typ) (found_of known e).part ≡ Some typ
