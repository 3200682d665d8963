-- The types to which references lead (FIRRTL specification 3.0, "References"), and the numbers of their classes.
use Rattle.std.specs.Prelude.{◌≡◌, ◌↔◌, ℕ, Bool, IsTrue, List, [], ◌∷◌, Some, nat_eq}
use Rattle.std.specs.Map.{lookup}
use Rattle.fir_types.specs.declared.fir_type.FirType.{FirType}
use Rattle.fir_types.specs.declared.name.Name.{Name}
use Rattle.fir_types.specs.Equivalence.{Equivalent}
use Rattle.fir_tree.specs.declared.expr.Expr.{Expr}
use Rattle.fir_tree.specs.declared.expr.Form.TheVariants as form
use Rattle.fir_tree.specs.declared.expr.Suffix.{Suffix}
use Rattle.fir_tree.specs.declared.expr.Suffix.TheVariants as suffix
use Rattle.fir_tree.specs.declared.part.Part.{Part}
use Rattle.type_index.specs.Numbers.{Table, HasNumber}
use Rattle.type_index.specs.Tables.{IsField, IsElement}
use Rattle.module_table.specs.declared.components.Noted.{Noted}
use Rattle.module_table.specs.Components.{Parts, AreClassed}

-- the expression is this reference
abbrev pub IsReference : Expr → ℕ → List Suffix → Type 0
IsReference e id suffixes = (name : Name) × (e.form ≡ form.Ref name suffixes) × (name.id ≡ id)

-- A step leads from a type to one of its parts: a field by its name, or an element.
pub data IsBehind (step : Suffix) (typ part : FirType) : Type 0 where
  a_field : (name : Name) → step ≡ suffix.Field name → IsField typ name.id part → IsBehind step typ part
  an_element : ((name : Name) → step ≡ suffix.Field name → ⊥) → IsElement typ part → IsBehind step typ part

-- some steps do
abbrev pub AreBehind : List Suffix → FirType → FirType → Type 0
AreBehind [] typ part = typ ≡ part
AreBehind (step ∷ steps) typ part = (middle : FirType) × IsBehind step typ middle × AreBehind steps middle part

-- the steps from the component of a name lead to a type
abbrev pub Leads : Parts → ℕ → List Suffix → FirType → Type 0
Leads parts name steps typ = (one : Part) × (lookup (nat_eq name) parts ≡ Some one) × AreBehind steps one.typ typ

-- the answer is whether the types to which two references lead are equivalent
abbrev pub AreCompared : Parts → ℕ × List Suffix → ℕ × List Suffix → Bool → Type 0
AreCompared parts one other answer =
    ∥ ((left : FirType) × (right : FirType) × Leads parts one.0 one.1 left × Leads parts other.0 other.1 right × (IsTrue answer ↔ ∥ Equivalent left right ∥₁)) ∥₁

-- what is behind a step has this number
abbrev pub ClassBehind : Table → Suffix → FirType → ℕ → Type 0
ClassBehind table step typ class = ∥ ((part : FirType) × IsBehind step typ part × HasNumber table part class) ∥₁

-- what is behind some steps has it
abbrev pub ClassAlong : Table → List Suffix → FirType → ℕ → Type 0
ClassAlong table steps typ class = ∥ ((part : FirType) × AreBehind steps typ part × HasNumber table part class) ∥₁

-- what a reference leads to among these components, if their numbers are right, has this number
abbrev pub LeadsClass : Table → List (ℕ × Noted) → ℕ → List Suffix → ℕ → Type 0
LeadsClass table noted name steps class =
    AreClassed table noted
    → ∥ ((one : Noted) × (typ : FirType) × (lookup (nat_eq name) noted ≡ Some one) × AreBehind steps one.component.known.typ typ × HasNumber table typ class) ∥₁
