-- The components that parts of a module are.
use Rattle.std.specs.Prelude.{◌≡◌, ℕ, List, length, nat_eq, Some, None}
use Rattle.std.specs.Map.{lookup}
use Rattle.std.specs.List.{AllZip}
use Rattle.fir_types.specs.Leaves.{leaves}
use Rattle.fir_meaning.specs.Components.{target_in}
use Rattle.lower_aggregates.specs.Parts.{Part}
use Rattle.lower_aggregates.specs.Instances.{Numbers}
use Rattle.found_items.specs.declared.table.Row.{Row}
use Rattle.found_items.specs.declared.table.Makes.{Makes}
use Rattle.found_items.specs.declared.table.Makes.TheVariants as makes

-- so many leaves, or an instance of the module that has this number by its name
abbrev pub MadeOf : Numbers → Part → Makes → Type 0
MadeOf numbers p (makes.Leaves count) = (target_in p.sort ≡ None) × (count ≡ length (leaves p.typ))
MadeOf numbers p (makes.Module number) = (target : ℕ) × (target_in p.sort ≡ Some target) × (lookup (nat_eq target) numbers ≡ Some number)

pub record IsRowOf (numbers : Numbers) (p : Part) (row : Row) : Type 0 where
  pub name : row.name ≡ p.name
  pub makes : MadeOf numbers p row.makes

abbrev pub AreRowsOf : Numbers → List Part → List Row → Type 0
AreRowsOf numbers parts rows = AllZip (IsRowOf numbers) parts rows
