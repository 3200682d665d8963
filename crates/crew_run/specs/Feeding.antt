-- A stimulus that feeds a net.
use Rattle.std.specs.Prelude.{◌≡◌}
use Rattle.ground_net.specs.declared.net.Net.{Net}
use Rattle.ground_net.specs.declared.net.Ports.{Ports}
use Rattle.ground_net.specs.Watching.{inputs}
use Rattle.ground_net.specs.Nets.{IsNet}
use Rattle.stimulus.specs.declared.stimulus.Stimulus.{Stimulus}
use Rattle.stimulus.specs.Stimuli.{IsFormed}

-- The ports have the net's inputs, and the stimulus is formed for them.
pub record Feeds (net : Net) (ports : Ports) (stimulus : Stimulus) : Type 0 where
  pub well : IsNet net
  pub inputs_are : ports.inputs ≡ inputs net
  pub formed : IsFormed ports stimulus
