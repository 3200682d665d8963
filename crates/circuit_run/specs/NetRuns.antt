-- A run of a net under a stimulus, from a cycle to a later one.
use Rattle.std.specs.Prelude.{◌≡◌, ℕ, ℤ, List, ◌++◌, map, flat_map, length, Option, Some, None}
use Rattle.std.specs.List.{range_with_len, enumerate_from}
use Rattle.bit_words.specs.declared.value.Value.{Value}
use Rattle.bit_words.specs.Values.{integer_of}
use Rattle.ground_net.specs.declared.net.Net.{Net}
use Rattle.ground_net.specs.declared.net.Ordered.{Ordered}
use Rattle.ground_net.specs.declared.net.Ports.{Ports}
use Rattle.ground_net.specs.Reads.{IsOrder}
use Rattle.ground_net.specs.Watching.{inputs, watched}
use Rattle.ground_net.specs.Cycles.{NetState, Inputs, first_state}
use Rattle.ground_net.specs.Nets.{IsNet}
use Rattle.net_laws.specs.Runs.{Run}
use Rattle.net_run.specs.declared.kept.Kept.{Kept}
use Rattle.net_run.specs.Keeping.{IsKept}
use Rattle.stimulus.specs.declared.stimulus.Stimulus.{Stimulus}
use Rattle.stimulus.specs.declared.stimulus.Setting.{Setting}
use Rattle.stimulus.specs.Stimuli.{IsFormed}
use Rattle.stimulus.specs.Rows.{last_set}
use Rattle.trace_print.specs.Trace.{trace_line_of}
use Rattle.circuit_run.specs.Traces.{integer_set}

-- The net is well formed and ordered, the ports are its own, and the stimulus is formed for them.
pub record IsPlanned (ordered : Ordered) (ports : Ports) (stimulus : Stimulus) : Type 0 where
  pub net : IsNet ordered.net
  pub order : IsOrder ordered.net ordered.sequence
  pub fed : ports.inputs ≡ inputs ordered.net
  pub seen : ports.watched ≡ watched ordered.net
  pub formed : IsFormed ports stimulus

-- the numbers of the watched leaves
abbrev pub watch : Net → List ℕ
watch net = map (λ p. p.leaf) (watched net)

-- What the inputs of a net are given in a cycle, by their numbers.
abbrev pub given_in : Stimulus → ℕ → Inputs
given_in stimulus cycle n = integer_set (last_set stimulus.settings cycle n)

-- the same where the inputs begin at these integers in place of 0
abbrev pub integer_set_or : ℤ → Option Setting → ℤ
integer_set_or start (Some setting) = integer_of setting.value
integer_set_or start None = start

abbrev pub given_in_from : Inputs → Stimulus → ℕ → Inputs
given_in_from start stimulus cycle n = integer_set_or (start n) (last_set stimulus.settings cycle n)

-- What inputs are given in so many cycles from a first one on.
abbrev pub inputs_from : (ℕ → Inputs) → ℕ → ℕ → List Inputs
inputs_from given first count = map given (range_with_len first count)

abbrev pub given_from : Stimulus → ℕ → ℕ → List Inputs
given_from stimulus = inputs_from (given_in stimulus)

-- Cycles with these inputs lead from a state to another one, with these rows: a run that goes on from there is one from here.
abbrev pub Leads : Net → NetState → List Inputs → List (List Value) → NetState → Type 0
Leads net s given rows t = (later : List Inputs) (more : List (List Value)) → Run net (watch net) t later more → Run net (watch net) s (given ++ later) (rows ++ more)

-- the lines of rows from a cycle on
abbrev pub lines_from : ℕ → List (List Value) → List ℕ
lines_from first rows = flat_map (λ x. trace_line_of x.0 x.1) (enumerate_from first rows)

-- From a state so many cycles from a first one on lead to a state of which P holds, and these are their lines.
pub record LeadsTo (net : Net) (stimulus : Stimulus) (P : NetState → Type 0) (s : NetState) (first count : ℕ) (lines : List ℕ) : Type 0 where
  pub state : NetState
  pub rows : List (List Value)
  pub leads : Leads net s (given_from stimulus first count) rows state
  pub counted : length rows ≡ count
  pub kept : P state
  pub are : lines ≡ lines_from first rows

-- The same, to what is kept behind them.
abbrev pub LeadsOn : Net → Stimulus → NetState → ℕ → ℕ → Kept → List ℕ → Type 0
LeadsOn net stimulus s first count behind lines = LeadsTo net stimulus (λ t. IsKept net t behind) s first count lines

-- The lines of a whole run.
pub record AreLines (net : Net) (stimulus : Stimulus) (bytes : List ℕ) : Type 0 where
  pub rows : List (List Value)
  pub run : Run net (watch net) first_state (given_from stimulus 0 stimulus.cycles) rows
  pub are : bytes ≡ lines_from 0 rows
