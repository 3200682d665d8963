-- Runs of which some leaves are watched, by their numbers in flat order.
use Rattle.std.specs.Prelude.{◌≡◌, ℕ, List, map}
use Rattle.bit_words.specs.declared.value.Value.{Value}
use Rattle.bit_words.specs.Values.{integer_of}
use Rattle.fir_meaning.specs.Components.{Design}
use Rattle.fir_meaning.specs.States.{State, Inputs, Trace, first_state}
use Rattle.net_of_circuit.specs.FlatOrder.{Placed}
use Rattle.settling_laws.specs.Runs.{Runs}
use Rattle.plain_run.specs.Leaves.{IsFlatOrder, watched_by, sinks}

-- The rows are those of a run from this state under these inputs that watches the leaves of these numbers.
pub record RunsWatched (design : Design) (numbers : List ℕ) (state : State) (given : List Inputs) (rows : List (List Value)) : Type 0 where
  pub placed : List Placed
  pub order : IsFlatOrder design placed
  pub run : Runs design (watched_by placed numbers) state given rows

-- The leaves of these numbers are those that a trace watches.
pub record WatchesSinks (design : Design) (numbers : List ℕ) : Type 0 where
  pub placed : List Placed
  pub order : IsFlatOrder design placed
  pub same : watched_by placed numbers ≡ sinks design

-- Where they are, the integers of the rows are the trace under these inputs.
pub record ShowTrace (design : Design) (numbers : List ℕ) (given : List Inputs) (rows : List (List Value)) : Type 0 where
  pub trace : WatchesSinks design numbers → Trace design first_state given (map (map integer_of) rows)
