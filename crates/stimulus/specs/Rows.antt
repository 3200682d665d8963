-- The values of the inputs, cycle by cycle.
use Rattle.std.specs.Prelude.{ℕ, ◌==◌, ◌&&◌, nat_le, List, reverse, map, Option, Some, None, find}
use Rattle.std.specs.List.{range_with_len, enumerate_from}
use Rattle.std.proofs.lemmas.Nat.{pow_pos}
use Rattle.bit_words.specs.declared.value.Value.{Value}
use Rattle.ground_net.specs.declared.net.Ports.{Ports}
use Rattle.ground_net.specs.declared.net.PortLeaf.{PortLeaf}
use Rattle.stimulus.specs.declared.stimulus.Setting.{Setting}

-- 0 of a leaf's kind and width
abbrev pub zero_of : PortLeaf → Value
zero_of leaf = record { kind = leaf.kind; width = leaf.width; bits = 0; narrow = leaf.narrow; within = pow_pos leaf.width }

-- the last setting of an input at or before a cycle
abbrev pub last_set : List Setting → ℕ → ℕ → Option Setting
last_set settings cycle input = find (λ s. (s.input == input) && nat_le s.cycle cycle) (reverse settings)

abbrev pub value_or : Option Setting → Value → Value
value_or None value = value
value_or (Some setting) value = setting.value

-- The value of an input in a cycle: that of its last setting at or before the cycle, and 0 where there is none.
abbrev pub value_in : List Setting → ℕ → ℕ → PortLeaf → Value
value_in settings cycle input leaf = value_or (last_set settings cycle input) (zero_of leaf)

-- the values of all inputs in a cycle, in order
abbrev pub row_in : Ports → List Setting → ℕ → List Value
row_in ports settings cycle = map (λ e. value_in settings cycle e.0 e.1) (enumerate_from 0 ports.inputs)

-- the rows of so many cycles from a first one on
abbrev pub rows_from : Ports → List Setting → ℕ → ℕ → List (List Value)
rows_from ports settings first count = map (row_in ports settings) (range_with_len first count)
