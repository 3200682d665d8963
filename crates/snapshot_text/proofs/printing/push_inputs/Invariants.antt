use Rattle.std.proofs.Common.{◌≡◌, ◌++◌, map, take}
use Rattle.bit_words.specs.Values.{integer_of}
use Rattle.snapshot_text.specs.Cells.{input_cell}
use Rattle.snapshot_text.specs.Texts.{lines_text}
use Rattle.snapshot_text.proofs.printing.push_inputs.Given as goal

abbrev pub invariant-loop-number : goal.invariant-loop-number
invariant-loop-number l = l.text.items ≡ l.initial.text.items ++ lines_text (map input_cell (take l.number l.inputs)) (map integer_of l.row)
