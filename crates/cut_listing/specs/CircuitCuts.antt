-- The cut of a circuit, as it is listed.
use Rattle.std.specs.Prelude.{◌≡◌, ℕ, List, map, slice_get, Some}
use Rattle.fir_tree.specs.LeafNames.{Texts}
use Rattle.fir_meaning.specs.Components.{Design}
use Rattle.ground_net.specs.declared.net.Net.{Net}
use Rattle.ground_net.specs.declared.net.Cut.{Cut}
use Rattle.ground_net.specs.Reads.{IsOrder}
use Rattle.ground_net.specs.Watching.{watched}
use Rattle.net_of_circuit.specs.FlatOrder.{Placed}
use Rattle.net_of_circuit.specs.NetOf.{IsNetOf}
use Rattle.cone_cutter.specs.Cuts.{IsCut}
use Rattle.cut_listing.specs.Listing.{listing_of}

-- the numbers of the watched leaves
abbrev pub watch : Net → List ℕ
watch net = map (λ p. p.leaf) (watched net)

-- The listing of a circuit's cut into so many parts: that of a net of it, with its assignments in some order, watched by main's
-- watched leaves.
pub record IsCutText (texts : Texts) (design : Design) (workers : ℕ) (bytes : List ℕ) : Type 0 where
  pub net : Net
  pub is : IsNetOf texts design net
  pub sequence : List ℕ
  pub order : IsOrder net sequence
  pub cut : Cut
  pub cuts : IsCut (record { net = net; sequence = sequence }) (watch net) workers cut
  pub is_text : bytes ≡ listing_of cut

-- Each component of the run stands once in its flat order. So it is in an accepted circuit.
abbrev pub StandOnce : List Placed → Type 0
StandOnce placed = (j k : ℕ) (p : Placed) → slice_get placed j ≡ Some p → slice_get placed k ≡ Some p → j ≡ k
