-- What is made of a circuit without combinational loops.
use Rattle.fir_tree.specs.LeafNames.{Texts}
use Rattle.fir_meaning.specs.Components.{Design}
use Rattle.fir_meaning.specs.Loops.{HasNoLoop}
use Rattle.ground_net.specs.declared.net.Ordered.{Ordered}
use Rattle.ground_net.specs.Reads.{IsOrder}
use Rattle.net_laws.specs.Serves.{Serves}

-- The net serves the circuit, and its assignments stand in an order. No leaf of the circuit reads itself.
pub record IsOrderedNet (texts : Texts) (design : Design) (ordered : Ordered) : Type 0 where
  pub serves : Serves texts design ordered.net
  pub sequence : IsOrder ordered.net ordered.sequence
  pub no_loop : HasNoLoop design
