-- Where the items of a run are found in its net: the numbers, in flat order, of the leaves of their wires and of the nodes of their arguments.
use Rattle.std.specs.Prelude.{◌≡◌, ℕ, List, ◌∷◌, map, length, slice_get, Some, Contains}
use Rattle.std.specs.List.{AllZip, range_with_len}
use Rattle.fir_tree.specs.LeafNames.{Texts}
use Rattle.fir_tree.specs.declared.print.PrintItem.{PrintItem}
use Rattle.item_lines.specs.Formats.{shows}
use Rattle.item_lines.specs.Items.{wire_name, argument_name, number_in}
use Rattle.fir_meaning.specs.Components.{Design, TypedModule, module_at}
use Rattle.net_of_circuit.specs.FlatOrder.{Standing, flat_of}
use Rattle.print_stop.specs.Printing.{PathItem}
use Rattle.print_stop.specs.RunItems.{item_of, prints_of}
use Rattle.print_stop.specs.Sound.{IsSound, IsOfPrint, leaf_at}
use Rattle.found_items.specs.declared.found.ItemAt.{ItemAt}

-- the names of an item's wire and of the nodes of its arguments
abbrev pub item_texts : PrintItem → List (List ℕ)
item_texts print = wire_name print.number ∷ map (argument_name print.number) (range_with_len 0 (shows print.pieces))

-- the text is among them, at its number
abbrev pub Has : Texts → List ℕ → Type 0
Has texts text = slice_get texts (number_in texts text) ≡ Some text

-- The items of each module, at each path at which it stands, are sound: their wires and nodes stand in it, under names that the texts have.
pub record HasItems (texts : Texts) (design : Design) (prints : List PrintItem) : Type 0 where
  pub named : (print : PrintItem) (text : List ℕ) → Contains prints print → Contains (item_texts print) text → Has texts text
  pub sound : (path : List ℕ) (m : TypedModule) (print : PrintItem) → module_at design path ≡ Some m → Contains (prints_of design prints m) print
      → IsSound design (item_of texts (length (prints_of design prints m)) path m print) (map (λ j. number_in texts (argument_name print.number j)) (range_with_len 0 (shows print.pieces)))

-- The number, in flat order, is that of the leaf that a component of one leaf is.
pub record IsLeafNumber (all : List Standing) (path : List ℕ) (name x : ℕ) : Type 0 where
  pub leaf : Standing
  pub there : slice_get all x ≡ Some leaf
  pub is : flat_of leaf ≡ leaf_at path name

-- the names of the nodes of an item's arguments
abbrev pub nodes_of : Texts → PrintItem → List ℕ
nodes_of texts print = map (λ j. number_in texts (argument_name print.number j)) (range_with_len 0 (shows print.pieces))

-- The item of a run is this item of the circuit, it is sound, and these are the numbers of its leaves: of its wire, and of the nodes of its
-- arguments.
pub record IsFound (texts : Texts) (design : Design) (prints : List PrintItem) (all : List Standing) (item : PathItem) (found : ItemAt) : Type 0 where
  pub print : PrintItem
  pub there : slice_get prints found.item ≡ Some print
  pub of : IsOfPrint item print
  pub wire : item.wire ≡ number_in texts (wire_name print.number)
  pub sound : IsSound design item (nodes_of texts print)
  pub leaves : AllZip (λ text x. IsLeafNumber all item.path (number_in texts text) x) (item_texts print) found.leaves
