-- The walk down the instances of a run.
use Rattle.std.specs.Prelude.{◌≡◌, ℕ, ◌+◌, ◌-◌, ◌<◌, true, is_some, List, ◌++◌, length, take, drop, slice_get, nat_eq, Option, Some, None, Contains}
use Rattle.std.specs.Map.{lookup}
use Rattle.std.specs.List.{AllZip}
use Rattle.fir_types.specs.declared.leaf.TypeLeaf.{TypeLeaf}
use Rattle.fir_types.specs.declared.name.Name.{Name}
use Rattle.fir_types.specs.Leaves.{leaves}
use Rattle.fir_tree.specs.LeafNames.{Texts}
use Rattle.fir_tree.specs.declared.circuit.Circuit.{Circuit}
use Rattle.fir_tree.specs.declared.print.PrintItem.{PrintItem}
use Rattle.fir_tree.specs.declared.scope.Fitted.{Fitted}
use Rattle.item_lines.specs.Items.{number_in}
use Rattle.fir_meaning.specs.Components.{TypedModule, Component, design_of, modules_of, module_at, target_in}
use Rattle.fir_names.specs.Scopes.{Instance}
use Rattle.circuit_laws.specs.WellFormed.{IsWellFormed}
use Rattle.net_of_circuit.specs.FlatOrder.{Placed, InFlatOrder, Standing, all_leaves}
use Rattle.print_stop.specs.Printing.{PathItem}
use Rattle.print_stop.specs.RunItems.{InInstances, own_items}
use Rattle.found_items.specs.declared.found.ItemAt.{ItemAt}
use Rattle.found_items.specs.declared.table.Makes.{Makes}
use Rattle.found_items.specs.declared.table.Makes.TheVariants as makes
use Rattle.found_items.specs.declared.table.Table.{Table}
use Rattle.found_items.specs.declared.walk.Walk.{Walk}
use Rattle.found_items.specs.Finding.{HasItems, IsFound, item_texts}
use Rattle.found_items.specs.Tables.{IsTable}

-- Numbers fall along instances, that of this module being below a bound: no module stands within itself.
pub record Falls (circuit : Circuit) (number left : ℕ) : Type 0 where
  pub rank : ℕ → ℕ
  pub falls : (from to : ℕ) (target : Name) → Instance circuit from target to → rank to < rank from
  pub below : rank number < left

-- The module of this number stands at some path, and the walk ends.
pub record CanVisit (table : Table) (number left : ℕ) : Type 0 where
  pub formed : IsWellFormed table.fitted.now
  pub has : HasItems table.fitted.now.checked.resolved.names (design_of table.fitted.now) table.fitted.now.checked.resolved.prints
  pub is : IsTable table
  pub falls : Falls table.fitted.now.checked.resolved number left
  pub m : TypedModule
  pub number_is : slice_get (modules_of table.fitted.now) number ≡ Some m
  pub path : List ℕ
  pub stands : module_at (design_of table.fitted.now) path ≡ Some m

-- so can the module that a component makes, one level down
abbrev pub CanEnter : Table → ℕ → Makes → Type 0
CanEnter table left (makes.Leaves count) = Unit {0}
CanEnter table left (makes.Module number) = (0 < left) × CanVisit table number (left - 1)

-- these components stand behind so many leaves of the run, whose leaves a `u32` numbers
pub record StandsBehind (all : List Standing) (first : ℕ) (placed : List Placed) : Type 0 where
  pub before : List Standing
  pub behind : List Standing
  pub are : all ≡ before ++ (all_leaves placed ++ behind)
  pub counted : length before ≡ first
  pub few : length all < 4294967296

-- the first leaf of a component of the module at a path has this number
pub record IsFirstLeaf (all : List Standing) (path : List ℕ) (m : TypedModule) (c : Component) (x : ℕ) : Type 0 where
  pub is : (leaf : TypeLeaf) → slice_get (leaves c.typ) 0 ≡ Some leaf → slice_get all x ≡ Some (record { path = path; m = m; c = c }, leaf)

abbrev pub FirstLeaf : List Standing → List ℕ → TypedModule → Component → Option ℕ → Type 0
FirstLeaf all path m c (Some x) = IsFirstLeaf all path m c x
FirstLeaf all path m c None = ⊥

-- the names of these components have the numbers of their first leaves
abbrev pub HasFirsts : List Standing → List ℕ → TypedModule → List Component → List (ℕ × ℕ) → Type 0
HasFirsts all path m cs firsts = (c : Component) → Contains cs c → target_in c.declaration.sort ≡ None → FirstLeaf all path m c (lookup (nat_eq c.declaration.name) firsts)

-- the names of these components have numbers, and are numbers of 32 bits
abbrev pub HasNames : List Component → List (ℕ × ℕ) → Type 0
HasNames cs firsts = (c : Component) → Contains cs c → target_in c.declaration.sort ≡ None → (is_some (lookup (nat_eq c.declaration.name) firsts) ≡ true) × (c.declaration.name < 4294967296)

-- The walk through the module at a path has left so many of its components behind.
pub record Going (fitted : Fitted) (all : List Standing) (path : List ℕ) (m : TypedModule) (placed : List Placed) (first done : ℕ) (walk : Walk) : Type 0 where
  pub front : List Placed
  pub tail : List Placed
  pub split : placed ≡ front ++ tail
  pub order : InFlatOrder (design_of fitted) path m (drop done m.components) tail
  pub counted : walk.next ≡ first + length (all_leaves front)
  pub firsts : HasFirsts all path m (take done m.components) walk.firsts.entries
  pub inner : List PathItem
  pub instances : (rest : List PathItem) → InInstances fitted.checked.resolved.names (design_of fitted) fitted.checked.resolved.prints path (drop done m.components) rest
      → InInstances fitted.checked.resolved.names (design_of fitted) fitted.checked.resolved.prints path m.components (inner ++ rest)
  pub found : AllZip (IsFound fitted.checked.resolved.names (design_of fitted) fitted.checked.resolved.prints all) inner walk.below.items

-- What a visit of the module at a path finds: its own items, and those of its instances.
pub record Visited (fitted : Fitted) (all : List Standing) (path : List ℕ) (m : TypedModule) (found : List ItemAt) : Type 0 where
  pub rest : List PathItem
  pub instances : InInstances fitted.checked.resolved.names (design_of fitted) fitted.checked.resolved.prints path m.components rest
  pub are : AllZip (IsFound fitted.checked.resolved.names (design_of fitted) fitted.checked.resolved.prints all)
      (own_items fitted.checked.resolved.names (design_of fitted) fitted.checked.resolved.prints path m ++ rest) found

-- The names of an item have these numbers.
abbrev pub AreFound : Texts → List (ℕ × ℕ) → PrintItem → List ℕ → Type 0
AreFound texts firsts print numbers = AllZip (λ text x. lookup (nat_eq (number_in texts text)) firsts ≡ Some x) (item_texts print) numbers

-- An item, with the numbers that its names have.
pub record IsItemAt (texts : Texts) (prints : List PrintItem) (firsts : List (ℕ × ℕ)) (number : ℕ) (found : ItemAt) : Type 0 where
  pub item : found.item ≡ number
  pub print : PrintItem
  pub there : slice_get prints number ≡ Some print
  pub leaves : AreFound texts firsts print found.leaves

-- each name of the item has a number, and is a number of 32 bits
pub record CanFind (texts : Texts) (firsts : List (ℕ × ℕ)) (print : PrintItem) : Type 0 where
  pub number : (text : List ℕ) → Contains (item_texts print) text → (x : ℕ) × (lookup (nat_eq (number_in texts text)) firsts ≡ Some x)
  pub small : (text : List ℕ) → Contains (item_texts print) text → number_in texts text < 4294967296
