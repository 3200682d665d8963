use Rattle.std.proofs.Common.{◌≡◌, ◌++◌, ◌∷◌, take}
use Rattle.vcd_write.specs.Changes.{Time, all_bits}
use Rattle.vcd_write.specs.Texts.{bits_of_row}
use Rattle.vcd_write.specs.Pieces.{widths_of_row, entries_text}
use Rattle.vcd_write.proofs.dump.push_values.Given as goal

abbrev pub invariant-loop-number : goal.invariant-loop-number
invariant-loop-number l = l.text.items ≡ l.fn.text.items ++ entries_text (widths_of_row l.row) (Time l.cycle ∷ all_bits 0 (bits_of_row (take l.number l.row)))
