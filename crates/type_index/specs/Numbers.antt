-- The numbers of classes of equivalent types (FIRRTL specification 3.0, "Type Equivalence").
use Rattle.std.specs.Prelude.{◌≡◌, ℕ, nat_eq, Bool, ◌&&◌, List, [], ◌∷◌, Option, Some}
use Rattle.std.specs.Bool.{beq}
use Rattle.std.specs.Map.{lookup}
use Rattle.fir_types.specs.declared.fir_type.FirType.{FirType}
use Rattle.fir_types.specs.declared.fir_type.Shape.TheVariants as shape
use Rattle.fir_types.specs.declared.fir_type.Field.{Field}
use Rattle.fir_types.specs.Equivalence.{IsUnsigned, IsSigned}
use Rattle.type_index.specs.declared.keys.VectorKey.{VectorKey}
use Rattle.type_index.specs.declared.keys.FieldKey.{FieldKey}

-- the numbers that are given
pub record Table : Type 0 where
  pub vectors : List (VectorKey × ℕ)
  pub bundles : List (FieldKey × ℕ)

abbrev pub same_vector : VectorKey → VectorKey → Bool
same_vector key other = nat_eq key.element other.element && nat_eq key.length other.length

abbrev pub same_field : FieldKey → FieldKey → Bool
same_field key other = nat_eq key.name other.name && (beq key.flip other.flip && (nat_eq key.class other.class && nat_eq key.after other.after))

abbrev pub vector_number : Table → VectorKey → Option ℕ
vector_number table key = lookup (same_vector key) table.vectors

abbrev pub field_number : Table → FieldKey → Option ℕ
field_number table key = lookup (same_field key) table.bundles

-- A type has a number where the table has all its parts: a ground type that of its kind, a vector by the number of its element and
-- its length, a bundle by its first field and by the number of the bundle of the fields after it.
mutual
  pub data HasNumber (table : Table) : FirType → ℕ → Type 0 where
    as_unsigned : {typ : FirType} → IsUnsigned typ → HasNumber table typ 0
    as_signed : {typ : FirType} → IsSigned typ → HasNumber table typ 1
    as_clock : {typ : FirType} → typ.shape ≡ shape.Clock → HasNumber table typ 2
    as_async : {typ : FirType} → typ.shape ≡ shape.AsyncReset → HasNumber table typ 4
    as_vector : {typ : FirType} (element : FirType) (length inner number : ℕ) → typ.shape ≡ shape.Vector element length → HasNumber table element inner
        → vector_number table (record { element = inner; length = length }) ≡ Some number → HasNumber table typ number
    as_bundle : {typ : FirType} (fields : List Field) (number : ℕ) → typ.shape ≡ shape.Bundle fields → HaveNumber table fields number → HasNumber table typ number

  pub data HaveNumber (table : Table) : List Field → ℕ → Type 0 where
    as_empty : HaveNumber table [] 3
    as_fields : {field : Field} {fields : List Field} (class after number : ℕ) → HasNumber table field.typ class → HaveNumber table fields after
        → field_number table (record { name = field.name.id; flip = field.flip; class = class; after = after }) ≡ Some number
        → HaveNumber table (field ∷ fields) number
