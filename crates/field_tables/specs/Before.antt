-- Where the leaves of a field stand.
use Rattle.std.specs.Prelude.{ℕ, ◌+◌, ◌==◌, List, [], ◌∷◌, if◌then◌else◌}
use Rattle.fir_types.specs.declared.fir_type.Field.{Field}
use Rattle.fir_types.specs.Leaves.{field_count}

-- How many leaves stand before those of the first field of a name.
abbrev pub leaves_before : ℕ → List Field → ℕ
leaves_before id [] = 0
leaves_before id (f ∷ fs) = if f.name.id == id then 0 else field_count f + leaves_before id fs
