-- The faults of expressions (FIRRTL specification 3.0, "Expressions", "References", "Constant Integer Expressions", "Primitive
-- Operations", "Multiplexers"): one is at fault where its operands are parts and don't meet a condition on them.
use Rattle.std.specs.Prelude.{◌≡◌, ◌≢◌, ℕ, ◌≤◌, ◌||◌, IsTrue, List, [], ◌∷◌, map, find, ◌==◌, Option, Some, None, Contains}
use Rattle.bit_words.specs.declared.value.Kind.{Kind as Sign}
use Rattle.bit_words.specs.declared.number.Number.{Number}
use Rattle.bit_words.specs.Numbers.{integer_of_number}
use Rattle.place_text.specs.declared.place.Place.{Place}
use Rattle.prim_ops.specs.declared.operation.PrimOp.{PrimOp}
use Rattle.prim_ops.specs.Kinds.{row_kind}
use Rattle.fir_types.specs.declared.fir_type.FirType.{FirType}
use Rattle.fir_types.specs.declared.fir_type.Shape.TheVariants as shape
use Rattle.fir_types.specs.declared.fir_type.Field.{Field}
use Rattle.fir_types.specs.declared.name.Name.{Name}
use Rattle.fir_types.specs.Equivalence.{Equivalent, IsUnsigned}
use Rattle.fir_types.specs.Passivity.{IsPassive}
use Rattle.fir_tree.specs.declared.expr.Expr.{Expr}
use Rattle.fir_tree.specs.declared.expr.Suffix.{Suffix}
use Rattle.fir_tree.specs.declared.expr.Form.TheVariants as form
use Rattle.fir_tree.specs.declared.expr.Suffix.TheVariants as suffix
use Rattle.fir_tree.specs.declared.part.Part.{Part}
use Rattle.type_check.specs.declared.fault.TypeFault.{TypeFault}
use Rattle.type_check.specs.declared.fault.TypeFault.TheVariants as fault
use Rattle.type_check.specs.Parts.{Known, component}
use Rattle.type_check.specs.Texts.{has_signal}
use Rattle.type_check.specs.Expressions.{Operand, fits_literal, sign_for}
use Rattle.check_laws.specs.Typing.{IsPart, Steps, HaveTypes}

abbrev pub IsNoBundle : FirType → Type 0
IsNoBundle typ = (fields : List Field) → typ.shape ≢ shape.Bundle fields

abbrev pub IsNoVector : FirType → Type 0
IsNoVector typ = (element : FirType) (length : ℕ) → typ.shape ≢ shape.Vector element length

-- A step from a part: to a field of what is no bundle, or that isn't there; to an element of what is no vector, or at the length or
-- past it, or by an index that is no UInt.
pub data StepFails (known : Known) : Part → Suffix → TypeFault → Type 0 where
  no_bundle : {base : Part} {s : Suffix} (name : Name) → s ≡ suffix.Field name → IsNoBundle base.typ → StepFails known base s (fault.NotBundle name.place)
  no_field : {base : Part} {s : Suffix} (name : Name) (fields : List Field) → s ≡ suffix.Field name → base.typ.shape ≡ shape.Bundle fields
      → find (λ f. f.name.id == name.id) fields ≡ None → StepFails known base s (fault.FieldUnknown name.place)
  no_vector : {base : Part} {s : Suffix} (bracket at : Place) (n : ℕ) → s ≡ suffix.At bracket at n → IsNoVector base.typ
      → StepFails known base s (fault.NotVector bracket)
  past_the_end : {base : Part} {s : Suffix} (bracket at : Place) (n : ℕ) (element : FirType) (length : ℕ) → s ≡ suffix.At bracket at n
      → base.typ.shape ≡ shape.Vector element length → length ≤ n → StepFails known base s (fault.IndexRange at)
  nothing_to_index : {base : Part} {s : Suffix} (bracket : Place) (index : Expr) (inner : Part) → s ≡ suffix.Index bracket index → IsPart known index inner
      → IsNoVector base.typ → StepFails known base s (fault.NotVector bracket)
  no_number : {base : Part} {s : Suffix} (bracket : Place) (index : Expr) (inner : Part) (element : FirType) (length : ℕ) → s ≡ suffix.Index bracket index
      → IsPart known index inner → base.typ.shape ≡ shape.Vector element length → ¬ (IsUnsigned inner.typ) → StepFails known base s (fault.IndexKind index.place)

-- one of the steps fails, and those before it lead there
pub data WayFails (known : Known) : Part → List Suffix → TypeFault → Type 0 where
  here : {base : Part} {first : Suffix} {rest : List Suffix} {told : TypeFault} → StepFails known base first told → WayFails known base (first ∷ rest) told
  further : {base next : Part} {first : Suffix} {rest : List Suffix} {told : TypeFault} → Steps known base first next → WayFails known next rest told
      → WayFails known base (first ∷ rest) told

-- the table of an operation has a row for operands of these types
abbrev pub HasRow : PrimOp → List FirType → Type 0
HasRow op types = (signs : List Sign) × (sign : Sign) × (map (sign_for op) types ≡ map Some signs) × (row_kind op signs ≡ Some sign)

-- the conditions on the operands of a choice at a place, each told where it stands
pub data ChoiceFails (place : Place) (condition first second : Operand) : TypeFault → Type 0 where
  condition_kind : ¬ (IsUnsigned condition.typ) → ChoiceFails place condition first second (fault.ConditionKind condition.place)
  a_signal : IsTrue (has_signal first.typ || has_signal second.typ) → ChoiceFails place condition first second (fault.OperandKind place)
  first_flips : ¬ (IsPassive first.typ) → ChoiceFails place condition first second (fault.NotPassive first.place)
  second_flips : ¬ (IsPassive second.typ) → ChoiceFails place condition first second (fault.NotPassive second.place)
  unlike : ¬ (Equivalent first.typ second.typ) → ChoiceFails place condition first second (fault.NotEquivalent second.place)

abbrev pub operand_of : Expr → FirType → Operand
operand_of e typ = record { place = e.place; typ = typ }

-- an expression has this fault of its own
pub data IsAtFault (known : Known) : Expr → TypeFault → Type 0 where
  reference : {e : Expr} {told : TypeFault} (name : Name) (suffixes : List Suffix) (base : Part) → e.form ≡ form.Ref name suffixes
      → component known name.id ≡ Some base → WayFails known base suffixes told → IsAtFault known e told
  literal : {e : Expr} (sign : Sign) (width : Option ℕ) (number : Number) → e.form ≡ form.Literal sign width number
      → ¬ (IsTrue (fits_literal sign width (integer_of_number number))) → IsAtFault known e (fault.LiteralFit e.place)
  operation : {e : Expr} (op : PrimOp) (operands : List Expr) (params : List ℕ) (types : List FirType) → e.form ≡ form.Prim op operands params
      → HaveTypes known operands types → ¬ (HasRow op types) → IsAtFault known e (fault.OperandKind e.place)
  choice : {e : Expr} {told : TypeFault} (condition first second : Expr) (c a b : FirType) → e.form ≡ form.Mux (condition ∷ first ∷ second ∷ [])
      → HaveTypes known (condition ∷ first ∷ second ∷ []) (c ∷ a ∷ b ∷ [])
      → ChoiceFails e.place (operand_of condition c) (operand_of first a) (operand_of second b) told → IsAtFault known e told

-- an expression stands in another: it is it, or stands in one of its operands or in an index
pub data StandsIn (inner : Expr) : Expr → Type 0 where
  itself : StandsIn inner inner
  in_operation : {e : Expr} (op : PrimOp) (operands : List Expr) (params : List ℕ) (operand : Expr) → e.form ≡ form.Prim op operands params
      → Contains operands operand → StandsIn inner operand → StandsIn inner e
  in_choice : {e : Expr} (operands : List Expr) (operand : Expr) → e.form ≡ form.Mux operands → Contains operands operand → StandsIn inner operand
      → StandsIn inner e
  in_index : {e : Expr} (name : Name) (suffixes : List Suffix) (bracket : Place) (index : Expr) → e.form ≡ form.Ref name suffixes
      → Contains suffixes (suffix.Index bracket index) → StandsIn inner index → StandsIn inner e

-- What the grammar and the names make sure of at an expression: a reference begins at a known component, and a choice has three operands.
pub record IsComplete (known : Known) (e : Expr) : Type 0 where
  pub names : (name : Name) (suffixes : List Suffix) → e.form ≡ form.Ref name suffixes → (base : Part) × (component known name.id ≡ Some base)
  pub choices : (operands : List Expr) → e.form ≡ form.Mux operands
      → (condition : Expr) × (first : Expr) × (second : Expr) × (operands ≡ condition ∷ first ∷ second ∷ [])
