-- What is known of the modules of a circuit: their components, with how many leaves each has or which module it makes; their items; and the
-- numbers of names.
use Rattle.std.specs.Prelude.{◌≡◌, ℕ, ◌+◌, ◌<◌, ◌==◌, true, List, [], ◌∷◌, length, slice_get, Some, None, if◌then◌else◌}
use Rattle.std.specs.List.{AllZip}
use Rattle.std.specs.Str.{bytes_eq}
use Rattle.std.specs.BTreeMap.{get_by}
use Rattle.std.specs.Cmp.Lexicographic.{slice_cmp}
use Rattle.std.specs.Ordering.{nat_cmp}
use Rattle.fir_types.specs.Leaves.{leaves}
use Rattle.fir_tree.specs.declared.circuit.Circuit.{Circuit}
use Rattle.fir_tree.specs.declared.print.PrintItem.{PrintItem}
use Rattle.fir_tree.specs.declared.scope.Fitted.{Fitted}
use Rattle.item_lines.specs.Items.{number_in}
use Rattle.fir_meaning.specs.Components.{TypedModule, Component, modules_of, target_in}
use Rattle.fir_names.specs.Scopes.{Means}
use Rattle.found_items.specs.declared.table.Row.{Row}
use Rattle.found_items.specs.declared.table.Makes.{Makes}
use Rattle.found_items.specs.declared.table.Makes.TheVariants as makes
use Rattle.found_items.specs.declared.table.Table.{Table}
use Rattle.found_items.specs.Finding.{Has}

-- so many leaves, or an instance of the module of this number
abbrev pub MadeBy : Circuit → Component → Makes → Type 0
MadeBy circuit c (makes.Leaves count) = (target_in c.declaration.sort ≡ None) × (count ≡ length (leaves c.typ))
MadeBy circuit c (makes.Module number) = (target : ℕ) × (target_in c.declaration.sort ≡ Some target) × Means circuit target number

pub record IsRow (circuit : Circuit) (c : Component) (row : Row) : Type 0 where
  pub name : row.name ≡ c.declaration.name
  pub makes : MadeBy circuit c row.makes

-- these are rows of the components of the module of this number, where main reaches it
abbrev pub AreRowsAt : Fitted → ℕ → List Row → Type 0
AreRowsAt fitted k rows = (m : TypedModule) → slice_get (modules_of fitted) k ≡ Some m → slice_get fitted.checked.scope.reached k ≡ Some true
    → AllZip (IsRow fitted.checked.resolved) m.components rows

-- The rows of all modules.
pub record AreRows (fitted : Fitted) (rows : List (List Row)) : Type 0 where
  pub counted : length rows ≡ length fitted.checked.resolved.modules
  pub each : (k : ℕ) (own : List Row) → slice_get rows k ≡ Some own → AreRowsAt fitted k own

-- the numbers of the items of module k, among items that are numbered from i on
abbrev pub own_numbers : ℕ → ℕ → List PrintItem → List ℕ
own_numbers k i [] = []
own_numbers k i (print ∷ prints) = if print.«module» == k then i ∷ own_numbers k (i + 1) prints else own_numbers k (i + 1) prints

-- those of all modules
pub record AreOwn (count : ℕ) (prints : List PrintItem) (own : List (List ℕ)) : Type 0 where
  pub counted : length own ≡ count
  pub each : (k : ℕ) (numbers : List ℕ) → slice_get own k ≡ Some numbers → numbers ≡ own_numbers k 0 prints

-- What is known of a fitted circuit.
pub record IsTable (table : Table) : Type 0 where
  pub rows : AreRows table.fitted.now table.rows.items
  pub own : AreOwn (length table.fitted.now.checked.resolved.modules) table.fitted.now.checked.resolved.prints table.own.items
  pub numbers : (text : List ℕ) → Has table.fitted.now.checked.resolved.names text → number_in table.fitted.now.checked.resolved.names text < 4294967296
      → get_by (λ k. slice_cmp nat_cmp text k.now) table.numbers ≡ Some (number_in table.fitted.now.checked.resolved.names text)
