-- The log of a run: what its items print, cycle by cycle, and the line at its end.
use Rattle.std.specs.Prelude.{◌≡◌, ℕ, List, ◌++◌}
use Rattle.fir_tree.specs.declared.print.PrintItem.{PrintItem}
use Rattle.fir_tree.specs.LeafNames.{Texts}
use Rattle.fir_meaning.specs.Components.{Design}
use Rattle.fir_meaning.specs.States.{Inputs, first_state}
use Rattle.print_stop.specs.Printing.{PathItem, Logs, with_feed}
use Rattle.print_stop.specs.RunItems.{AreItems}

-- The log of a circuit with these items under these inputs, from the state in which all is 0. Where the printed bytes aren't empty and
-- don't end in a line feed, one stands before the last line.
pub record IsLogOf (texts : Texts) (design : Design) (prints : List PrintItem) (given : List Inputs) (bytes : List ℕ) : Type 0 where
  pub items : List PathItem
  pub are : AreItems texts design prints items
  pub printed : List ℕ
  pub line : List ℕ
  pub logs : Logs design items 0 first_state given printed line
  pub is : bytes ≡ with_feed printed ++ line
