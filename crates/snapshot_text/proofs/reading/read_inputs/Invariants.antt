use Rattle.std.proofs.Common.{◌≤◌, List, ◌++◌, map, length, take, drop}
use Rattle.bit_words.specs.Values.{integer_of}
use Rattle.ground_net.specs.Watching.{AreValuesOf}
use Rattle.snapshot_text.specs.Cells.{Cell, input_cell}
use Rattle.snapshot_text.specs.Going.{IsReadTo}
use Rattle.snapshot_text.proofs.reading.read_inputs.Given as goal

abbrev pub invariant-loop-leaf : goal.invariant-loop-leaf
invariant-loop-leaf l = record {
  values : AreValuesOf (take l.leaf-index l.inputs) l.row;
  read : (more : List Cell) → IsReadTo l.bytes (map input_cell l.inputs ++ more) l.fn.at (map input_cell (drop l.leaf-index l.inputs) ++ more) l.behind (map integer_of l.row);
  within : l.behind ≤ length l.bytes;
}
