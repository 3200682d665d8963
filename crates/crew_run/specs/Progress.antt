-- The cycles that a run has gone, and what was told of them.
use Rattle.std.specs.Prelude.{◌≡◌, ℕ, ◌+◌, Bool, List, length, map, None}
use Rattle.std.specs.List.{list_any}
use Rattle.bit_words.specs.declared.value.Value.{Value}
use Rattle.ground_net.specs.declared.net.Net.{Net}
use Rattle.ground_net.specs.declared.net.Ordered.{Ordered}
use Rattle.ground_net.specs.declared.net.CutPart.{CutPart}
use Rattle.ground_net.specs.Cycles.{NetState, Inputs, Valuation, Settled}
use Rattle.register_table.specs.declared.table.Closed.{Closed}
use Rattle.register_table.specs.Shown.{closed_script}
use Rattle.circuit_run.specs.NetRuns.{inputs_from}
use Rattle.crew_run.specs.declared.run.Run.{Run}
use Rattle.row_texts.specs.declared.telling.Spot.{Spot}
use Rattle.crew_run.specs.Epochs.{Advances, AreEpochsFrom}
use Rattle.crew_run.specs.Runs.{IsRun}
use Rattle.row_texts.specs.Tellings.{Telling, last_from, told_of, rows_text}

-- Rows of these watched leaves can be told, whatever settles.
pub record CanTell (net : Net) (watched : List ℕ) (reads : List Value → Type 0) : Type 0 where
  pub each : (t : NetState) (given : Inputs) (rho : Valuation) → Settled net t given rho → reads (map rho watched)

-- The texts of the first cycles of a run, which leads to this state.
pub record Progress (net : Net) (watched : List ℕ) (s : NetState) (given : ℕ → Inputs) (t : Telling) (first n : ℕ) (lines : List ℕ) (u : NetState) : Type 0 where
  pub rows : List (List Value)
  pub advances : Advances net watched s (inputs_from given 0 n) rows u
  pub are : lines ≡ rows_text t first None (told_of t.ends rows)

-- Where the text stands behind the rows that are told, and whether the run ended there.
pub record IsSpot (t : Telling) (first : ℕ) (rows : List (List Value)) (lines : List ℕ) (spot : Spot) (ended : Bool) : Type 0 where
  pub cycle : spot.cycle ≡ first + length (told_of t.ends rows)
  pub before : spot.before ≡ last_from None (told_of t.ends rows)
  pub byte : spot.byte ≡ last_from None lines
  pub at_end : ended ≡ list_any t.ends rows

-- A run that went so many cycles on from a state, with the tables that were closed and the texts of its rows.
pub record Went (ordered : Ordered) (watched : List ℕ) (parts : List CutPart) (s : NetState) (given : ℕ → Inputs) (t : Telling) (first n : ℕ) (run : Run) (tables : List Closed) (lines : List ℕ) (spot : Spot) (ended : Bool) : Type 0 where
  pub state : NetState
  pub told : Progress ordered.net watched s given t first n lines state
  pub stands : IsSpot t first told.rows lines spot ended
  pub is_run : IsRun ordered watched parts state run
  pub cycle : run.cycle ≡ first + n
  pub epochs : AreEpochsFrom ordered.net watched s given parts 0 (map closed_script tables) n
