-- The trace of a circuit under a stimulus: what main's inputs are given in each cycle, and the lines that are written.
use Rattle.std.specs.Prelude.{◌≡◌, ℕ, ◌==◌, ◌&&◌, List, ◌++◌, map, flat_map, codes, decimal, position, ℤ, pos, Option, Some, None}
use Rattle.std.specs.List.{range_with_len, enumerate_from}
use Rattle.bit_words.specs.Values.{integer_of}
use Rattle.bit_words.specs.Decimals.{decimal_text}
use Rattle.fir_types.specs.declared.leaf.PathStep.{PathStep}
use Rattle.fir_tree.specs.LeafNames.{Texts}
use Rattle.fir_meaning.specs.Components.{Design}
use Rattle.fir_meaning.specs.Drives.{same_way}
use Rattle.fir_meaning.specs.States.{Inputs, Trace, first_state}
use Rattle.stimulus.specs.declared.stimulus.Stimulus.{Stimulus}
use Rattle.stimulus.specs.declared.stimulus.Setting.{Setting}
use Rattle.stimulus.specs.Rows.{last_set}
use Rattle.trace_print.specs.Trace.{header_of}
use Rattle.circuit_run.specs.Ports.{part_text, given_parts, watched_parts}

-- the number of the input that a leaf of main is, where it is one
abbrev pub input_number : Design → ℕ → List PathStep → Option ℕ
input_number design name way = position (λ x. (x.1.0.declaration.name == name) && same_way x.1.1.path way) (given_parts design)

-- the integer of a setting, and 0 where there is none
abbrev pub integer_set : Option Setting → ℤ
integer_set (Some setting) = integer_of setting.value
integer_set None = pos 0

abbrev pub integer_given : List Setting → ℕ → Option ℕ → ℤ
integer_given settings cycle (Some input) = integer_set (last_set settings cycle input)
integer_given settings cycle None = pos 0

-- What main's inputs are given in a cycle: an input has the value of its last setting at or before the cycle, and 0 before the first.
abbrev pub inputs_in : Design → Stimulus → ℕ → Inputs
inputs_in design stimulus cycle name way = integer_given stimulus.settings cycle (input_number design name way)

-- the same for all cycles
abbrev pub all_inputs : Design → Stimulus → List Inputs
all_inputs design stimulus = map (inputs_in design stimulus) (range_with_len 0 stimulus.cycles)

-- the names of the watched leaves
abbrev pub watched_names : Texts → Design → List (List ℕ)
watched_names texts design = map (λ x. part_text texts x.1) (watched_parts design)

-- the line of a cycle: its number and the integers, each in decimal
abbrev pub line_of : ℕ × List ℤ → List ℕ
line_of (cycle, row) = decimal cycle ++ flat_map (λ n. codes " " ++ decimal_text n) row ++ codes "\n"

-- The trace: the names of the watched leaves, and then a line for each cycle with the integers that they have in it, from the state
-- in which all is 0.
pub record IsTraceText (texts : Texts) (design : Design) (stimulus : Stimulus) (bytes : List ℕ) : Type 0 where
  pub rows : List (List ℤ)
  pub trace : Trace design first_state (all_inputs design stimulus) rows
  pub is : bytes ≡ header_of (watched_names texts design) ++ flat_map line_of (enumerate_from 0 rows)
