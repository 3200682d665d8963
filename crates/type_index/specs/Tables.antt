-- What the table keeps, and what is found in it.
use Rattle.std.specs.Prelude.{◌≡◌, ℕ, nat_eq, ◌==◌, ◌≤◌, ◌<◌, Bool, List, find, Some}
use Rattle.std.specs.Map.{lookup}
use Rattle.fir_types.specs.declared.fir_type.FirType.{FirType}
use Rattle.fir_types.specs.declared.fir_type.Shape.TheVariants as shape
use Rattle.fir_types.specs.declared.fir_type.Field.{Field}
use Rattle.type_index.specs.declared.keys.VectorKey.{VectorKey}
use Rattle.type_index.specs.declared.keys.FieldKey.{FieldKey}
use Rattle.type_index.specs.declared.keys.FieldClasses.{FieldClasses}
use Rattle.type_index.specs.Numbers.{Table, vector_number, field_number, HasNumber}

-- the first field of a name in the bundles of a number has this number
pub data HasPart (table : Table) : ℕ → ℕ → ℕ → Type 0 where
  here : {number name class : ℕ} (flip : Bool) (after : ℕ) → field_number table (record { name = name; flip = flip; class = class; after = after }) ≡ Some number
      → HasPart table number name class
  behind : {number name class : ℕ} (key : FieldKey) → field_number table key ≡ Some number → (key.name ≡ name → ⊥) → HasPart table key.after name class
      → HasPart table number name class

abbrev pub HasParts : Table → ℕ → List (ℕ × ℕ) → Type 0
HasParts table number numbers = (name class : ℕ) → lookup (nat_eq name) numbers ≡ Some class → HasPart table number name class

-- Different keys have different numbers, none is one of the five that stand for themselves, and the parts are those of their wholes.
pub record IsSound (table : Table) (elements : List (ℕ × ℕ)) (fields : List (ℕ × FieldClasses)) (next : ℕ) : Type 0 where
  pub vectors : (key : VectorKey) (number : ℕ) → vector_number table key ≡ Some number → (5 ≤ number) × (number < next)
  pub bundles : (key : FieldKey) (number : ℕ) → field_number table key ≡ Some number → (5 ≤ number) × (number < next)
  pub vectors_differ : (key other : VectorKey) (number : ℕ) → vector_number table key ≡ Some number → vector_number table other ≡ Some number → key ≡ other
  pub bundles_differ : (key other : FieldKey) (number : ℕ) → field_number table key ≡ Some number → field_number table other ≡ Some number → key ≡ other
  pub apart : (key : VectorKey) (other : FieldKey) (number : ℕ) → vector_number table key ≡ Some number → field_number table other ≡ Some number → ⊥
  pub elements' : (number inner : ℕ) → lookup (nat_eq number) elements ≡ Some inner
      → (length : ℕ) × (vector_number table (record { element = inner; length = length }) ≡ Some number)
  pub fields' : (number : ℕ) (inside : FieldClasses) → lookup (nat_eq number) fields ≡ Some inside → HasParts table number inside.numbers.entries
  pub free : 5 ≤ next

-- the first field of this name has this type
abbrev pub IsField : FirType → ℕ → FirType → Type 0
IsField typ id part = (fields : List Field) × (field : Field) × (typ.shape ≡ shape.Bundle fields) × (find (λ f. f.name.id == id) fields ≡ Some field) × (field.typ ≡ part)

-- the elements have this type
abbrev pub IsElement : FirType → FirType → Type 0
IsElement typ part = (length : ℕ) × (typ.shape ≡ shape.Vector part length)

-- the first field of this name is there, and its type has this number
abbrev pub FieldHas : Table → FirType → ℕ → ℕ → Type 0
FieldHas table typ id class = ∥ ((part : FirType) × IsField typ id part × HasNumber table part class) ∥₁

-- there are elements, and their type has this number
abbrev pub ElementHas : Table → FirType → ℕ → Type 0
ElementHas table typ class = ∥ ((part : FirType) × IsElement typ part × HasNumber table part class) ∥₁
