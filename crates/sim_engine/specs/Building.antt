-- What is made of an accepted text.
use Rattle.std.specs.Prelude.{◌≡◌, ℕ, List}
use Rattle.fir_meaning.specs.Components.{design_of}
use Rattle.ground_net.specs.Watching.{inputs, watched, port_names}
use Rattle.sim_engine.specs.OrderedNets.{IsOrderedNet}
use Rattle.sim_engine.specs.Stages.{IsAccepted}
use Rattle.sim_engine.specs.declared.compile.Built.{Built}

-- The text passes all stages with this circuit and these types; the net serves the circuit, and its assignments stand in an order; and
-- the ports are those of the net.
pub record IsBuilt (text : List ℕ) (built : Built) : Type 0 where
  pub accepted : IsAccepted text built.fitted
  pub ordered : IsOrderedNet built.fitted.checked.resolved.names (design_of built.fitted) built.ordered
  pub inputs : built.ports.inputs ≡ inputs built.ordered.net
  pub watched : built.ports.watched ≡ watched built.ordered.net
  pub names : built.ports.names ≡ port_names built.ordered.net
