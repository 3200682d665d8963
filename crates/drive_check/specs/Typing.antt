-- The types of a module's components, by the names of its declarations.
use Rattle.std.specs.Prelude.{◌≡◌, ℕ, ◌++◌, List, [], ◌∷◌, Option, Some, None, option_and_then, slice_get, nat_eq, is_some, if◌then◌else◌}
use Rattle.std.specs.Map.{lookup}
use Rattle.fir_types.specs.declared.name.Name.{Name}
use Rattle.fir_types.specs.declared.fir_type.FirType.{FirType}
use Rattle.fir_types.specs.declared.fir_type.Shape.TheVariants as shape
use Rattle.fir_types.specs.Bundles.{nowhere}
use Rattle.fir_meaning.specs.Mentions.{Scope}
use Rattle.fir_names.specs.Finds.{numbered}

abbrev pub no_type : FirType
no_type = record { place = nowhere; shape = shape.Bundle [] }

abbrev pub type_or_none : Option FirType → FirType
type_or_none (Some typ) = typ
type_or_none None = no_type

-- the type of the first declaration of a name
abbrev pub typed : List Name → List FirType → Scope
typed names declared id = type_or_none (option_and_then (slice_get declared) (lookup (nat_eq id) (numbered 0 names)))

-- each name has the number of the first of these names that is the same
abbrev pub IsPlaced : List Name → List (ℕ × ℕ) → Type 0
IsPlaced names numbers = (id : ℕ) → lookup (nat_eq id) numbers ≡ lookup (nat_eq id) (numbered 0 names)

-- the numbers with one more, unless its name has one
abbrev pub with_new : List (ℕ × ℕ) → ℕ → ℕ → List (ℕ × ℕ)
with_new numbers id number = if is_some (lookup (nat_eq id) numbers) then numbers else numbers ++ (id, number) ∷ []
