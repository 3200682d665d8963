-- Runs of a net that go on from a snapshot.
use Rattle.std.specs.Prelude.{◌≡◌, ℕ, ◌+◌, List, map, slice_get}
use Rattle.bit_words.specs.declared.value.Value.{Value}
use Rattle.register_table.specs.declared.table.Closed.{Closed}
use Rattle.register_table.specs.Shown.{closed_script}
use Rattle.ground_net.specs.declared.net.Net.{Net}
use Rattle.ground_net.specs.declared.net.Ordered.{Ordered}
use Rattle.ground_net.specs.declared.net.Ports.{Ports}
use Rattle.ground_net.specs.declared.net.Cut.{Cut}
use Rattle.ground_net.specs.Watching.{inputs, AreValuesOf}
use Rattle.ground_net.specs.Cycles.{NetState, Inputs}
use Rattle.cone_cutter.specs.Cuts.{IsCut}
use Rattle.stimulus.specs.declared.stimulus.Stimulus.{Stimulus}
use Rattle.circuit_texts.specs.StimulusParts.{last_row}
use Rattle.snapshot_text.specs.declared.snapshot.Snapshot.{Snapshot}
use Rattle.snapshot_text.specs.Snapshots.{HoldsState, snapshot_text}
use Rattle.circuit_run.specs.NetRuns.{given_in_from, inputs_from}
use Rattle.circuit_texts.specs.StateTexts.{integer_or_zero}
use Rattle.crew_run.specs.Epochs.{Reaches, AreEpochsFrom}
use Rattle.crew_run.specs.Feeding.{Feeds}

-- What the inputs are given in a cycle, by their numbers: an input has the value of its last setting at or before the cycle, and the one
-- that it begins with before the first.
abbrev pub given_behind : List Value → Stimulus → ℕ → Inputs
given_behind start stimulus = given_in_from (λ n. integer_or_zero (slice_get start n)) stimulus

-- the same for all cycles
abbrev pub all_given_behind : List Value → Stimulus → List Inputs
all_given_behind start stimulus = inputs_from (given_behind start stimulus) 0 stimulus.cycles

-- The ports have the net's inputs, the stimulus is formed for them, and each input has a value of its kind and width to begin with.
pub record FeedsFrom (net : Net) (ports : Ports) (stimulus : Stimulus) (start : List Value) : Type 0 where
  pub feeds : Feeds net ports stimulus
  pub values : AreValuesOf ports.inputs start

-- The closed tables of a whole run by so many workers that goes on from this state.
pub record AreTablesFrom (ordered : Ordered) (watched : List ℕ) (t : NetState) (start : List Value) (stimulus : Stimulus) (workers : ℕ) (tables : List Closed) : Type 0 where
  pub cut : Cut
  pub is_cut : IsCut ordered watched workers cut
  pub epochs : AreEpochsFrom ordered.net watched t (given_behind start stimulus) cut.parts 0 (map closed_script tables) stimulus.cycles

-- The snapshot behind all cycles of a stimulus that go on from a snapshot of this state: it holds the state to which they lead, the cycles
-- are added, and the inputs have the values of the last cycle.
pub record IsBehind (net : Net) (t : NetState) (start : Snapshot) (stimulus : Stimulus) (behind : Snapshot) (u : NetState) : Type 0 where
  pub reached : Reaches net t (all_given_behind start.inputs stimulus) u
  pub holds : HoldsState net (inputs net) u behind
  pub cycle : behind.cycle ≡ start.cycle + stimulus.cycles
  pub inputs : behind.inputs ≡ last_row start.inputs stimulus

-- The text of that snapshot.
pub record IsTextBehind (net : Net) (t : NetState) (start : Snapshot) (stimulus : Stimulus) (text : List ℕ) : Type 0 where
  pub behind : Snapshot
  pub state : NetState
  pub reached : IsBehind net t start stimulus behind state
  pub is : text ≡ snapshot_text net (inputs net) state behind
