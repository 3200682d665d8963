-- States that are the same as far as the design goes.
use Rattle.std.proofs.Common.{◌∙◌}
use Rattle.fir_meaning.specs.Components.{Design, HasBundles}
use Rattle.fir_meaning.specs.Values.{Valuation, scene_of}
use Rattle.fir_meaning.specs.MemoryPorts.{port_named}
use Rattle.fir_meaning.specs.States.{State, SameState, Inputs, Settled}
use Rattle.fir_meaning.proofs.MemoryWays.{shown_same}
use Rattle.fir_meaning.proofs.Settling.{read_contents}

pub settled_alike : (design : Design) → HasBundles design → (s t : State) → SameState design t s → (given : Inputs) (rho : Valuation) → Settled design t given rho → Settled design s given rho
settled_alike design has s t same given rho h = record {
  clocks = h.clocks;
  inputs = h.inputs;
  registers = λ path m c leaf stands register. h.registers path m c leaf stands register ∙ same.registers path m c leaf stands register;
  nodes = h.nodes;
  reads = λ path m c leaf memory port field way stands sort latency turned is.
      h.reads path m c leaf memory port field way stands sort latency turned is
      ∙ read_contents memory ((scene_of m path rho).integers c.declaration.name) (t.contents path c.declaration.name) (s.contents path c.declaration.name) way
      (λ element below. shown_same design has t s same path m c leaf memory port field way element stands sort turned is below) (port_named memory port);
  captured = λ path m c leaf memory port field way stands sort later turned is.
      h.captured path m c leaf memory port field way stands sort later turned is ∙ same.captured path m c leaf memory port field way stands sort later turned is;
  driven = h.driven;
}
