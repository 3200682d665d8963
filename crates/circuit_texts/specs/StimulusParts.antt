-- A stimulus in two parts: the settings of its first cycles, and those of the others, whose cycles are counted from 0 again. Rows begin with
-- values that the inputs have before the first setting.
use Rattle.std.specs.Prelude.{ℕ, ◌-◌, nat_le, nat_lt, List, map, filter}
use Rattle.std.specs.List.{range_with_len, enumerate_from}
use Rattle.bit_words.specs.declared.value.Value.{Value}
use Rattle.stimulus.specs.declared.stimulus.Stimulus.{Stimulus}
use Rattle.stimulus.specs.declared.stimulus.Setting.{Setting}
use Rattle.stimulus.specs.Rows.{last_set, value_or}

-- the values of all inputs in a cycle, where they begin with these
abbrev pub row_from : List Value → List Setting → ℕ → List Value
row_from start settings cycle = map (λ e. value_or (last_set settings cycle e.0) e.1) (enumerate_from 0 start)

-- the rows of so many cycles from a first one on
abbrev pub rows_from : List Value → List Setting → ℕ → ℕ → List (List Value)
rows_from start settings first count = map (row_from start settings) (range_with_len first count)

-- the values that the inputs have in the last cycle, and those that they begin with where there is none
abbrev pub last_row : List Value → Stimulus → List Value
last_row start stimulus = row_from start stimulus.settings (stimulus.cycles - 1)

-- the settings before a cycle, and those from it on, counted from it
abbrev pub first_settings : ℕ → List Setting → List Setting
first_settings a settings = filter (λ s. nat_lt s.cycle a) settings

abbrev pub counted_from : ℕ → Setting → Setting
counted_from a s = record { cycle = s.cycle - a; input = s.input; value = s.value }

abbrev pub second_settings : ℕ → List Setting → List Setting
second_settings a settings = map (counted_from a) (filter (λ s. nat_le a s.cycle) settings)

-- The first cycles of a stimulus, and the others.
abbrev pub first_part : ℕ → Stimulus → Stimulus
first_part a stimulus = record { cycles = a; settings = first_settings a stimulus.settings }

abbrev pub second_part : ℕ → Stimulus → Stimulus
second_part a stimulus = record { cycles = stimulus.cycles - a; settings = second_settings a stimulus.settings }
