-- What a run is watched by whose items are printed.
use Rattle.std.specs.Prelude.{◌≡◌, ℕ, List, flat_map, slice_get, Some}
use Rattle.std.specs.List.{AllZip}
use Rattle.fir_tree.specs.declared.print.PrintItem.{PrintItem}
use Rattle.found_items.specs.declared.found.ItemAt.{ItemAt}

-- the leaves of items that are found, in order: of each its wire, and then the nodes of its arguments
abbrev pub watch_of : List ItemAt → List ℕ
watch_of found = flat_map (λ it. it.leaves) found

-- the circuit's items that they are
abbrev pub ArePrints : List PrintItem → List ItemAt → List PrintItem → Type 0
ArePrints prints found ps = AllZip (λ (it : ItemAt) print. slice_get prints it.item ≡ Some print) found ps
