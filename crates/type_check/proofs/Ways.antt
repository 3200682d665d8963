-- The steps of references, and the rows of operations.
use Rattle.std.proofs.Common.{◌≡◌, ◌≤◌, List, [], ◌∷◌, map, length, refl, sym, ap, ◌∙◌, arith}
use Rattle.std.specs.Prelude.{Option, Some, None, find, ◌==◌}
use Rattle.std.proofs.lemmas.Grind.{common_steps}
use Rattle.bit_words.specs.declared.value.Kind.{Kind as Sign}
use Rattle.prim_ops.specs.declared.operation.PrimOp.{PrimOp}
use Rattle.fir_types.specs.declared.fir_type.FirType.{FirType}
use Rattle.fir_types.specs.declared.fir_type.Shape.{Shape}
use Rattle.fir_types.specs.declared.fir_type.Shape.TheOpen.{Shape-F}
use Rattle.fir_types.specs.declared.fir_type.Shape.TheViews.{out-Shape}
use Rattle.fir_types.specs.declared.fir_type.Field.{Field}
use Rattle.fir_types.specs.declared.name.Name.{Name}
use Rattle.fir_tree.specs.declared.part.Part.{Part}
use Rattle.fir_tree.specs.Parts.{part_of, flow_through}
use Rattle.type_check.specs.declared.rules.Operand.{Operand as Held}
use Rattle.type_check.specs.Expressions.{field_step, field_found, stands, row_of, with_sign, signs_of, sign_for}
use Rattle.type_check.specs.Judging.{operand_of}
use Rattle.type_index.specs.Knowing.{fields_in}

-- the first field of a name, where there is one
there_in : (name : Name) (base : Part) (layer : Shape-F Shape Field FirType) (field : Field) → find (λ f. f.name.id == name.id) (fields_in layer) ≡ Some field
    → field_step name base layer ≡ stands (part_of field.typ (flow_through field.flip base.flow))
there_in name base (Shape-F.Unsigned width) field found = absurd cc
there_in name base (Shape-F.Signed width) field found = absurd cc
there_in name base Shape-F.Clock field found = absurd cc
there_in name base Shape-F.Reset field found = absurd cc
there_in name base Shape-F.AsyncReset field found = absurd cc
there_in name base (Shape-F.Bundle fields) field found = ap (field_found name base) found
there_in name base (Shape-F.Vector element length) field found = absurd cc

pub first_field : (name : Name) (base : Part) (typ : FirType) (field : Field) → base.typ ≡ typ
    → find (λ f. f.name.id == name.id) (fields_in (out-Shape typ.shape)) ≡ Some field
    → field_step name base (out-Shape base.typ.shape) ≡ stands (part_of field.typ (flow_through field.flip base.flow))
first_field name base typ field same found = there_in name base (out-Shape base.typ.shape) field
    (ap (λ t. find (λ f. f.name.id == name.id) (fields_in (out-Shape t.shape))) same ∙ found)

-- Rows of operations

more_signs : (op : PrimOp) (x y z : Option Sign) (rest : Option (List Sign)) → row_of op (with_sign x (with_sign y (with_sign z rest))) ≡ None
more_signs op None y z rest = refl
more_signs op (Some x) None z rest = refl
more_signs op (Some x) (Some y) None rest = refl
more_signs op (Some x) (Some y) (Some z) None = refl
more_signs op (Some x) (Some y) (Some z) (Some rest) = refl

-- no operation takes three operands or more
pub no_row : (op : PrimOp) (held : List Held) → 3 ≤ length held → None ≡ row_of op (signs_of op (map operand_of held))
no_row op [] h = grind (arith, common_steps)
no_row op (a ∷ []) h = grind (arith, common_steps)
no_row op (a ∷ b ∷ []) h = grind (arith, common_steps)
no_row op (a ∷ b ∷ c ∷ more) h = sym (more_signs op (sign_for op a.part.typ) (sign_for op b.part.typ) (sign_for op c.part.typ) (signs_of op (map operand_of more)))
