-- The refined cut of a circuit, as it is listed.
use Rattle.std.specs.Prelude.{◌≡◌, ℕ, List, ◌++◌, flat_map, codes, decimal}
use Rattle.fir_tree.specs.LeafNames.{Texts}
use Rattle.fir_meaning.specs.Components.{Design}
use Rattle.ground_net.specs.declared.net.Net.{Net}
use Rattle.ground_net.specs.declared.net.Cut.{Cut}
use Rattle.ground_net.specs.Reads.{IsOrder}
use Rattle.net_of_circuit.specs.NetOf.{IsNetOf}
use Rattle.cone_cutter.specs.Cuts.{IsCut}
use Rattle.cut_listing.specs.Listing.{listing_of}
use Rattle.cut_listing.specs.CircuitCuts.{watch}
use Rattle.cut_refine.specs.declared.refined.Move.{Move}
use Rattle.cut_refine.specs.declared.refined.Refined.{Refined}
use Rattle.cut_refine.specs.Refining.{IsRefined}

-- the line of the greatest cost, and that of a row of the table
abbrev pub greatest_line : ℕ → List ℕ
greatest_line greatest = codes "greatest " ++ decimal greatest ++ codes "\n"

abbrev pub move_line : Move → List ℕ
move_line move = codes "sink " ++ decimal move.sink ++ codes " to " ++ decimal move.target ++ codes " greatest " ++ decimal move.greatest ++ codes "\n"

-- The lines of the cut, the greatest cost, and the table.
abbrev pub refined_listing : Refined → List ℕ
refined_listing refined = listing_of refined.cut ++ greatest_line refined.greatest ++ flat_map move_line refined.table

-- The listing of a circuit's refined cut into so many parts: that of a net of it, with its assignments in some order, watched by main's
-- watched leaves.
pub record IsRefinedText (texts : Texts) (design : Design) (workers : ℕ) (bytes : List ℕ) : Type 0 where
  pub net : Net
  pub is : IsNetOf texts design net
  pub sequence : List ℕ
  pub order : IsOrder net sequence
  pub start : Cut
  pub starts : IsCut (record { net = net; sequence = sequence }) (watch net) workers start
  pub refined : Refined
  pub refines : IsRefined (record { net = net; sequence = sequence }) (watch net) start refined
  pub is_text : bytes ≡ refined_listing refined
