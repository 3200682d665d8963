-- The table of a value, and one that has all entries of another.
use Rattle.std.specs.Prelude.{◌≡◌, ℕ, Some}
use Rattle.type_index.specs.declared.keys.VectorKey.{VectorKey}
use Rattle.type_index.specs.declared.keys.FieldKey.{FieldKey}
use Rattle.type_index.specs.declared.classes.Classes.{Classes}
use Rattle.type_index.specs.Numbers.{Table, vector_number, field_number}

abbrev pub table_of : Classes → Table
table_of classes = record { vectors = classes.vectors.entries; bundles = classes.bundles.entries }

-- each number that was given stays
pub record Keeps (old new : Table) : Type 0 where
  pub vectors : (key : VectorKey) (number : ℕ) → vector_number old key ≡ Some number → vector_number new key ≡ Some number
  pub bundles : (key : FieldKey) (number : ℕ) → field_number old key ≡ Some number → field_number new key ≡ Some number

abbrev pub Grows : Classes → Classes → Type 0
Grows old new = Keeps (table_of old) (table_of new)
