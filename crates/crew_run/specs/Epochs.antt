-- Cycles of a run by the codes of a cut. Each epoch is a script, whose words are those of the run's states.
use Rattle.std.specs.Prelude.{◌≡◌, ℕ, ◌+◌, ◌≤◌, List, [], ◌∷◌, map, length, slice_get, Some}
use Rattle.bit_words.specs.declared.value.Value.{Value}
use Rattle.phase_core.specs.declared.model.Script.{Script}
use Rattle.phase_core.specs.Script.{owner, values}
use Rattle.register_table.specs.declared.table.Closed.{Closed}
use Rattle.register_table.specs.Shown.{closed_script}
use Rattle.ground_net.specs.declared.net.Net.{Net}
use Rattle.ground_net.specs.declared.net.Ordered.{Ordered}
use Rattle.ground_net.specs.declared.net.Cut.{Cut}
use Rattle.ground_net.specs.declared.net.CutPart.{CutPart}
use Rattle.ground_net.specs.Cycles.{NetState, Inputs, Valuation, Settled, instant_of, next, first_state}
use Rattle.ground_net.specs.Words.{words_of}
use Rattle.cone_cutter.specs.Cuts.{IsCut}
use Rattle.partition_code.specs.Codes.{HasWordAmong, sinks_of_part}
use Rattle.stimulus.specs.declared.stimulus.Stimulus.{Stimulus}
use Rattle.circuit_run.specs.NetRuns.{watch, given_in, inputs_from}

-- A state leads to another one in cycles of these inputs: each cycle goes on from the state after the settled values of the one before.
pub data Reaches (net : Net) : NetState → List Inputs → NetState → Type 0 where
  there : {t : NetState} → Reaches net t [] t
  onward : {s t : NetState} {given : Inputs} {later : List Inputs} (rho : Valuation) → Settled net s given rho → Reaches net (next net s (instant_of net s rho)) later t → Reaches net s (given ∷ later) t

-- The same, with the values of the watched leaves, a row for each cycle.
pub data Advances (net : Net) (watch : List ℕ) : NetState → List Inputs → List (List Value) → NetState → Type 0 where
  stays : {t : NetState} → Advances net watch t [] [] t
  goes_on : {s t : NetState} {given : Inputs} {later : List Inputs} {rows : List (List Value)} (rho : Valuation) → Settled net s given rho
      → Advances net watch (next net s (instant_of net s rho)) later rows t → Advances net watch s (given ∷ later) (map rho watch ∷ rows) t

-- The words are those of this state, to which a state leads in so many cycles of what the inputs are given.
pub record IsAfterFrom (net : Net) (s : NetState) (given : ℕ → Inputs) (n : ℕ) (words : List ℕ) (t : NetState) : Type 0 where
  pub reached : Reaches net s (inputs_from given 0 n) t
  pub are : words ≡ words_of net t

-- The words are those of this state, which the run of a stimulus has after so many cycles.
abbrev pub IsAfter : Net → Stimulus → ℕ → List ℕ → NetState → Type 0
IsAfter net stimulus = IsAfterFrom net first_state (given_in stimulus)

-- The script of cycles that begin so many cycles behind a state: it has a worker for each part; the owner of a word is the part that
-- holds the word's sink; and each cycle begins with the words of the state that is reached by the cycles before it.
pub record IsScriptFrom (net : Net) (watched : List ℕ) (s : NetState) (given : ℕ → Inputs) (parts : List CutPart) (first : ℕ) (script : Script) : Type 0 where
  pub workers : script.workers ≡ length parts
  pub owners : (p i : ℕ) (part : CutPart) → slice_get parts p ≡ Some part → HasWordAmong net (sinks_of_part net watched part) i → owner script i ≡ p
  pub words : (c : ℕ) → c ≤ script.cycles → (t : NetState) × IsAfterFrom net s given (first + c) (values script c) t

-- The script of an epoch: it has 1 to 1,024 cycles.
pub record IsEpochFrom (net : Net) (watched : List ℕ) (s : NetState) (given : ℕ → Inputs) (parts : List CutPart) (first : ℕ) (script : Script) : Type 0 where
  pub is : IsScriptFrom net watched s given parts first script
  pub some : 1 ≤ script.cycles
  pub few : script.cycles ≤ 1024

abbrev pub IsEpoch : Net → Stimulus → List CutPart → ℕ → Script → Type 0
IsEpoch net stimulus = IsEpochFrom net (watch net) first_state (given_in stimulus)

-- Epochs one behind the other, from a cycle on up to a last one.
abbrev pub AreEpochsFrom : Net → List ℕ → NetState → (ℕ → Inputs) → List CutPart → ℕ → List Script → ℕ → Type 0
AreEpochsFrom net watched s given parts first [] last = first ≡ last
AreEpochsFrom net watched s given parts first (script ∷ later) last = IsEpochFrom net watched s given parts first script × AreEpochsFrom net watched s given parts (first + script.cycles) later last

abbrev pub AreEpochs : Net → Stimulus → List CutPart → ℕ → List Script → ℕ → Type 0
AreEpochs net stimulus = AreEpochsFrom net (watch net) first_state (given_in stimulus)

-- The closed tables of a whole run under a stimulus: those of its epochs in order, by the codes of these parts.
abbrev pub AreTablesOf : Net → List ℕ → Stimulus → List CutPart → List Closed → Type 0
AreTablesOf net watched stimulus parts tables = AreEpochsFrom net watched first_state (given_in stimulus) parts 0 (map closed_script tables) stimulus.cycles

-- The closed tables of a whole run by so many workers, of the cut of its net into so many parts.
pub record AreTablesBy (ordered : Ordered) (watched : List ℕ) (stimulus : Stimulus) (workers : ℕ) (tables : List Closed) : Type 0 where
  pub cut : Cut
  pub is_cut : IsCut ordered watched workers cut
  pub epochs : AreTablesOf ordered.net watched stimulus cut.parts tables

abbrev pub AreTables : Ordered → Stimulus → ℕ → List Closed → Type 0
AreTables ordered = AreTablesBy ordered (watch ordered.net)
