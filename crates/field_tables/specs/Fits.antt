-- What the table of a type says of its parts.
use Rattle.std.specs.Prelude.{◌≡◌, ℕ, sum, List, [], map, Option, Some, None, slice_get}
use Rattle.fir_types.specs.declared.fir_type.FirType.{FirType}
use Rattle.fir_types.specs.declared.fir_type.Shape.{Shape}
use Rattle.fir_types.specs.declared.fir_type.Shape.TheOpen.{Shape-F}
use Rattle.fir_types.specs.declared.fir_type.Shape.TheVariants as shape
use Rattle.fir_types.specs.declared.fir_type.Field.{Field}
use Rattle.fir_types.specs.Indexes.{IsIndexOf}
use Rattle.fir_types.specs.Leaves.{field_count}
use Rattle.field_tables.specs.declared.table.FieldTable.{FieldTable}
use Rattle.field_tables.specs.declared.table.Inner.TheVariants as known

-- the fields of a bundle, and no field of what is none
abbrev pub fields_in : Shape-F Shape Field FirType → List Field
fields_in (Shape-F.Bundle fields) = fields
fields_in _ = []

-- the element of a vector
abbrev pub element_in : Shape-F Shape Field FirType → Option FirType
element_in (Shape-F.Vector element length) = Some element
element_in _ = None

-- how many leaves these fields have, and where they stand by their names, each with the leaves before it
pub record Counts (table : FieldTable) (fields : List Field) : Type 0 where
  pub leaves : table.leaves ≡ sum (map field_count fields)
  pub index : IsIndexOf table.index fields (map field_count fields)

-- A table is that of a bundle, or of a vector whose elements have it. Where a field has a table, it is that of its type.
pub data Fits : FirType → FieldTable → Type 0 where
  vector : {typ : FirType} {table : FieldTable} (element : FirType) (length : ℕ) → typ.shape ≡ shape.Vector element length → Fits element table → Fits typ table
  bundle : {typ : FirType} {table : FieldTable} (fields : List Field) → typ.shape ≡ shape.Bundle fields → Counts table fields
      → ((i : ℕ) (field : Field) (inner : FieldTable) → slice_get fields i ≡ Some field → slice_get table.inner i ≡ Some (known.Table inner) → Fits field.typ inner) → Fits typ table
