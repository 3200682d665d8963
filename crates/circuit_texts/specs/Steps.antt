-- The values of the inputs behind the first settings.
use Rattle.std.specs.Prelude.{◌==◌, List, reverse, map, find}
use Rattle.std.specs.List.{enumerate_from}
use Rattle.bit_words.specs.declared.value.Value.{Value}
use Rattle.stimulus.specs.declared.stimulus.Setting.{Setting}
use Rattle.stimulus.specs.Rows.{value_or}

-- the values of all inputs once these settings are made
abbrev pub row_after : List Value → List Setting → List Value
row_after start done = map (λ e. value_or (find (λ s. s.input == e.0) (reverse done)) e.1) (enumerate_from 0 start)
