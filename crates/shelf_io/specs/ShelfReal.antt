-- What the shelf of the process shows of itself.
use Rattle.std.specs.Prelude.{Bool}
use Rattle.shelf_io.specs.declared.real.ShelfReal.{ShelfReal}

-- whether standard input was opened
abbrev pub input_used : {A B C : Type 0} → ShelfReal A B C → Bool
input_used shelf = shelf.input_used
