-- The counter's state: its reset, and its register.
use Rattle.std.specs.Prelude.{List, [], ◌∷◌, codes}
use Rattle.bit_words.specs.declared.value.Kind.TheVariants.{Unsigned}
use Rattle.snapshot_text.specs.Cells.{Cell}

abbrev pub count_cells : List Cell
count_cells = record { word = codes "input"; name = codes "reset"; kind = Unsigned; width = 1 } ∷ record { word = codes "reg"; name = codes "r"; kind = Unsigned; width = 4 } ∷ []
