-- The first field of a name (FIRRTL specification 3.0, "Sub-fields"), with what the fields before it weigh together.
use Rattle.std.specs.Prelude.{◌≡◌, ℕ, suc, List, [], ◌∷◌, ◌++◌, nat_eq, ◌==◌, sum, take, is_some, Option, Some, None, option_map, if◌then◌else◌}
use Rattle.std.specs.Map.{lookup}
use Rattle.fir_types.specs.declared.fir_type.FirType.{FirType}
use Rattle.fir_types.specs.declared.fir_type.Field.{Field}
use Rattle.fir_types.specs.declared.fir_type.Shape.TheVariants as shape
use Rattle.fir_types.specs.declared.index.FieldPlace.{FieldPlace}
use Rattle.fir_types.specs.declared.index.FieldIndex.{FieldIndex}

-- the position of the first field of a name
abbrev pub first_at : List Field → ℕ → Option ℕ
first_at [] name = None
first_at (field ∷ fields) name = if field.name.id == name then Some 0 else option_map suc (first_at fields name)

-- this position, with the sum of the weights before it
abbrev pub place_in : List ℕ → ℕ → FieldPlace
place_in weights position = record { position = position; before = sum (take position weights) }

-- A name has no place where no field has it, and else that of the first that does.
abbrev pub ArePlaces : List (ℕ × FieldPlace) → List Field → List ℕ → Type 0
ArePlaces places fields weights = (name : ℕ) → lookup (nat_eq name) places ≡ option_map (place_in weights) (first_at fields name)

abbrev pub IsIndexOf : FieldIndex → List Field → List ℕ → Type 0
IsIndexOf index fields weights = ArePlaces index.places.entries fields weights

-- the index of the fields, whatever they weigh
abbrev pub HasIndex : FieldIndex → List Field → Type 0
HasIndex index fields = (weights : List ℕ) × IsIndexOf index fields weights

-- the index of a bundle's fields without weights; of another type it says nothing
abbrev pub IsIndexOfType : FirType → FieldIndex → Type 0
IsIndexOfType typ index = (fields : List Field) → typ.shape ≡ shape.Bundle fields → IsIndexOf index fields []

-- the entries with one more, unless there is one of its name
abbrev pub with_new : List (ℕ × FieldPlace) → ℕ → FieldPlace → List (ℕ × FieldPlace)
with_new places name place = if is_some (lookup (nat_eq name) places) then places else places ++ (name, place) ∷ []
