-- The fields of a bundle with their numbers.
use Rattle.std.specs.Prelude.{◌≡◌, List, [], ◌∷◌}
use Rattle.fir_types.specs.declared.fir_type.Field.{Field}
use Rattle.type_index.specs.declared.keys.FieldPart.{FieldPart}
use Rattle.type_index.specs.Numbers.{Table, HasNumber}

pub data AreParts (table : Table) : List Field → List FieldPart → Type 0 where
  no_parts : AreParts table [] []
  one_part : {field : Field} {part : FieldPart} {fields : List Field} {parts : List FieldPart} → field.name.id ≡ part.name → field.flip ≡ part.flip
      → HasNumber table field.typ part.class → AreParts table fields parts → AreParts table (field ∷ fields) (part ∷ parts)
