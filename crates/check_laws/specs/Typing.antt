-- The types of expressions (FIRRTL specification 3.0, "Expressions", "References", "Primitive Operations", "Multiplexers") as a
-- relation: an expression is a part, with a type and a flow, where its operands are parts and meet the conditions.
use Rattle.std.specs.Prelude.{◌≡◌, ℕ, ◌<◌, IsTrue, false, List, [], ◌∷◌, map, find, ◌==◌, Option, Some, None}
use Rattle.bit_words.specs.declared.value.Kind.{Kind as Sign}
use Rattle.bit_words.specs.declared.number.Number.{Number}
use Rattle.bit_words.specs.Numbers.{integer_of_number}
use Rattle.place_text.specs.declared.place.Place.{Place}
use Rattle.prim_ops.specs.declared.operation.PrimOp.{PrimOp}
use Rattle.prim_ops.specs.Kinds.{row_kind}
use Rattle.fir_types.specs.declared.fir_type.FirType.{FirType}
use Rattle.fir_types.specs.declared.fir_type.Shape.TheVariants as shape
use Rattle.fir_types.specs.declared.fir_type.Field.{Field}
use Rattle.fir_types.specs.declared.name.Name.{Name}
use Rattle.fir_types.specs.Equivalence.{Equivalent, IsUnsigned}
use Rattle.fir_types.specs.Passivity.{IsPassive}
use Rattle.fir_tree.specs.declared.expr.Expr.{Expr}
use Rattle.fir_tree.specs.declared.expr.Suffix.{Suffix}
use Rattle.fir_tree.specs.declared.expr.Form.TheVariants as form
use Rattle.fir_tree.specs.declared.expr.Suffix.TheVariants as suffix
use Rattle.fir_tree.specs.declared.part.Part.{Part}
use Rattle.fir_tree.specs.Parts.{part_of, source_of, flow_through}
use Rattle.fir_tree.specs.Kinds.{ground}
use Rattle.type_check.specs.Parts.{Known, component}
use Rattle.type_check.specs.Texts.{has_signal}
use Rattle.type_check.specs.Expressions.{fits_literal, sign_for, result_type}

mutual
  -- Among the components that are known, the expression is this part. A result has a width of its own, which is not told here; a
  -- choice takes a UInt and two passive and equivalent types without a Clock or an AsyncReset.
  pub data IsPart (known : Known) : Expr → Part → Type 0 where
    reference : {e : Expr} {part : Part} (name : Name) (suffixes : List Suffix) (base : Part) → e.form ≡ form.Ref name suffixes
        → component known name.id ≡ Some base → Leads known base suffixes part → IsPart known e part
    literal : {e : Expr} (sign : Sign) (width : Option ℕ) (number : Number) → e.form ≡ form.Literal sign width number
        → IsTrue (fits_literal sign width (integer_of_number number)) → IsPart known e (source_of (ground e.place sign width))
    operation : {e : Expr} (op : PrimOp) (operands : List Expr) (params : List ℕ) (types : List FirType) (signs : List Sign) (sign : Sign)
        → e.form ≡ form.Prim op operands params → HaveTypes known operands types → map (sign_for op) types ≡ map Some signs → row_kind op signs ≡ Some sign
        → IsPart known e (source_of (result_type op e.place sign))
    choice : {e : Expr} (operands : List Expr) (condition first second : FirType) → e.form ≡ form.Mux operands
        → HaveTypes known operands (condition ∷ first ∷ second ∷ []) → IsUnsigned condition → has_signal first ≡ false → has_signal second ≡ false
        → IsPassive first → IsPassive second → Equivalent first second → IsPart known e (source_of first)

  -- the suffixes lead from one part to another
  pub data Leads (known : Known) : Part → List Suffix → Part → Type 0 where
    nowhere_else : {base : Part} → Leads known base [] base
    one_step : {base next part : Part} {first : Suffix} {rest : List Suffix} → Steps known base first next → Leads known next rest part
        → Leads known base (first ∷ rest) part

  -- to a field of the name, to an element below the length, or to the one that a UInt picks
  pub data Steps (known : Known) : Part → Suffix → Part → Type 0 where
    to_field : {base : Part} {s : Suffix} (name : Name) (fields : List Field) (field : Field) → s ≡ suffix.Field name → base.typ.shape ≡ shape.Bundle fields
        → find (λ f. f.name.id == name.id) fields ≡ Some field → Steps known base s (part_of field.typ (flow_through field.flip base.flow))
    to_element : {base : Part} {s : Suffix} (bracket at : Place) (n : ℕ) (element : FirType) (length : ℕ) → s ≡ suffix.At bracket at n
        → base.typ.shape ≡ shape.Vector element length → n < length → Steps known base s (part_of element base.flow)
    to_indexed : {base : Part} {s : Suffix} (bracket : Place) (index : Expr) (inner : Part) (element : FirType) (length : ℕ) → s ≡ suffix.Index bracket index
        → base.typ.shape ≡ shape.Vector element length → IsPart known index inner → IsUnsigned inner.typ → Steps known base s (part_of element base.flow)

  -- each of the expressions has the type at its place
  pub data HaveTypes (known : Known) : List Expr → List FirType → Type 0 where
    no_operands : HaveTypes known [] []
    one_operand : {e : Expr} {es : List Expr} {part : Part} {types : List FirType} → IsPart known e part → HaveTypes known es types
        → HaveTypes known (e ∷ es) (part.typ ∷ types)
