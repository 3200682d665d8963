-- The components of a module as the bodies keep them.
use Rattle.std.specs.Prelude.{◌≡◌, ℕ, List, map, Option, Some, None, IfSome, nat_eq, refl}
use Rattle.std.specs.Map.{lookup}
use Rattle.std.specs.Coded.{Coded, code_by, coded×, coded_list, coded_ℕ}
use Rattle.fir_tree.specs.declared.circuit.Module.{Module}
use Rattle.fir_tree.specs.contracts.circuit.Module.{the_row as module_row}
use Rattle.fir_tree.specs.declared.part.Part.{Part}
use Rattle.fir_tree.specs.contracts.part.Part.{the_row as part_row}
use Rattle.fir_tree.specs.Parts.{part_of}
use Rattle.type_index.specs.Numbers.{Table, HasNumber}
use Rattle.module_table.specs.declared.components.Component.{Component}
use Rattle.module_table.specs.declared.components.Noted.{Noted}
use Rattle.module_table.specs.Tables.{with_new}

-- parts by the numbers of their names
abbrev pub Parts : Type 0
Parts = List (ℕ × Part)

-- what names mean in a module: all modules of the circuit, and the components that are noted
pub record Environment : Type 0 where
  pub modules : List Module
  pub parts : Parts

-- it is stored as the pair of its fields
abbrev pub environment_code : Coded Environment
environment_code =
    code_by (List Module × Parts) (coded× (coded_list module_row.coded) (coded_list (coded× coded_ℕ part_row.coded))) (λ e. (e.modules, e.parts))
    (λ p. record { modules = p.0; parts = p.1 }) (λ _. refl)

-- one more part, where there is one, unless there is one of its name
abbrev pub parts_with : Parts → ℕ → Option Part → Parts
parts_with parts name (Some part) = with_new parts name part
parts_with parts name None = parts

abbrev pub with_part : Environment → ℕ → Option Part → Environment
with_part among name part = record { modules = among.modules; parts = parts_with among.parts name part }

abbrev pub part_in : Component → Part
part_in c = part_of c.known.typ c.flow

abbrev pub part_noted : Noted → Part
part_noted noted = part_in noted.component

abbrev pub parts_of : List (ℕ × Noted) → Parts
parts_of entries = map (λ e. (e.0, part_noted e.1)) entries

-- the number, where there is one, is that of this type
abbrev pub HasClass : Table → Noted → Type 0
HasClass table noted = IfSome noted.class (λ class. ∥ HasNumber table noted.component.known.typ class ∥₁)

-- each number that is kept for a component is that of its type
abbrev pub AreClassed : Table → List (ℕ × Noted) → Type 0
AreClassed table noted = (name : ℕ) (one : Noted) → lookup (nat_eq name) noted ≡ Some one → HasClass table one
