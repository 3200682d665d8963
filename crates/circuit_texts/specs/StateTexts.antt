-- Runs of a circuit that go on from a state: the trace, and the text of the state that is reached.
use Rattle.std.specs.Prelude.{◌≡◌, ℕ, ◌+◌, List, [], ◌∷◌, ◌++◌, map, flat_map, slice_get, ℤ, pos, Option, Some, None}
use Rattle.std.specs.List.{range_with_len, enumerate_from}
use Rattle.bit_words.specs.declared.value.Value.{Value}
use Rattle.bit_words.specs.Values.{integer_of}
use Rattle.fir_tree.specs.LeafNames.{Texts}
use Rattle.fir_meaning.specs.Components.{Design}
use Rattle.fir_meaning.specs.Values.{Valuation}
use Rattle.fir_meaning.specs.States.{State, Inputs, Settled, Trace, next}
use Rattle.stimulus.specs.declared.stimulus.Stimulus.{Stimulus}
use Rattle.stimulus.specs.declared.stimulus.Setting.{Setting}
use Rattle.stimulus.specs.Rows.{last_set}
use Rattle.circuit_texts.specs.StimulusParts.{last_row}
use Rattle.trace_print.specs.Trace.{header_of}
use Rattle.circuit_run.specs.Traces.{input_number, watched_names, line_of}
use Rattle.circuit_run.specs.NetRuns.{integer_set_or}
use Rattle.snapshot_text.specs.declared.snapshot.Snapshot.{Snapshot}
use Rattle.circuit_texts.specs.Held.{Begins, IsStateText}

-- the integer that an input begins with
abbrev pub integer_or_zero : Option Value → ℤ
integer_or_zero (Some value) = integer_of value
integer_or_zero None = pos 0

abbrev pub integer_given_from : List Value → List Setting → ℕ → Option ℕ → ℤ
integer_given_from start settings cycle (Some input) = integer_set_or (integer_or_zero (slice_get start input)) (last_set settings cycle input)
integer_given_from start settings cycle None = pos 0

-- What main's inputs are given in a cycle: an input has the value of its last setting at or before the cycle, and the one that it begins
-- with before the first.
abbrev pub inputs_in_from : Design → List Value → Stimulus → ℕ → Inputs
inputs_in_from design start stimulus cycle name way = integer_given_from start stimulus.settings cycle (input_number design name way)

abbrev pub all_inputs_from : Design → List Value → Stimulus → List Inputs
all_inputs_from design start stimulus = map (inputs_in_from design start stimulus) (range_with_len 0 stimulus.cycles)

-- A state leads to another one in cycles of these inputs: each cycle goes on from the state after the settled values of the one before.
pub data Reaches (design : Design) : State → List Inputs → State → Type 0 where
  there : {s : State} → Reaches design s [] s
  onward : {s t : State} {given : Inputs} {later : List Inputs} (rho : Valuation) → Settled design s given rho → Reaches design (next design s rho) later t → Reaches design s (given ∷ later) t

-- The trace of a run that goes on from where it begins, its cycles numbered from there.
pub record IsResumedText (texts : Texts) (design : Design) (stimulus : Stimulus) (begin : Option (List ℕ)) (bytes : List ℕ) : Type 0 where
  pub start : State
  pub snapshot : Snapshot
  pub begins : Begins texts design begin start snapshot
  pub rows : List (List ℤ)
  pub trace : Trace design start (all_inputs_from design snapshot.inputs stimulus) rows
  pub is : bytes ≡ header_of (watched_names texts design) ++ flat_map line_of (enumerate_from snapshot.cycle rows)

-- The text of the state behind the last cycle of such a run. Its inputs are those of the last cycle that ran.
pub record IsSavedText (texts : Texts) (design : Design) (stimulus : Stimulus) (begin : Option (List ℕ)) (bytes : List ℕ) : Type 0 where
  pub start : State
  pub snapshot : Snapshot
  pub begins : Begins texts design begin start snapshot
  pub behind : State
  pub reached : Reaches design start (all_inputs_from design snapshot.inputs stimulus) behind
  pub saved : Snapshot
  pub is : IsStateText texts design behind saved bytes
  pub cycle : saved.cycle ≡ snapshot.cycle + stimulus.cycles
  pub inputs : saved.inputs ≡ last_row snapshot.inputs stimulus
