-- Notes that stand beside types.
use Rattle.std.specs.Prelude.{◌≡◌, ℕ, List, Some, IfSome, slice_get}
use Rattle.fir_types.specs.declared.fir_type.FirType.{FirType}
use Rattle.fir_types.specs.Leaves.{has_clock}
use Rattle.field_tables.specs.Fits.{Fits}
use Rattle.drive_check.specs.declared.noted.Note.{Note}

-- the table is that of the type, and it is told whether a leaf is a Clock
abbrev pub IsNote : FirType → Note → Type 0
IsNote typ note = ∥ IfSome note.table (Fits typ) ∥₁ × (note.clocked ≡ has_clock typ)

-- each note is that of the type with its number
abbrev pub AreNoted : List FirType → List Note → Type 0
AreNoted types notes = (i : ℕ) (typ : FirType) (note : Note) → slice_get types i ≡ Some typ → slice_get notes i ≡ Some note → IsNote typ note
