use Rattle.std.proofs.Common.{◌≡◌, take, map}
use Rattle.stimulus.specs.Rows.{zero_of}
use Rattle.circuit_texts.proofs.starting.zeros.Given as goal

abbrev pub invariant-loop-leaf : goal.invariant-loop-leaf
invariant-loop-leaf l = l.row ≡ map zero_of (take l.leaf-index l.inputs)
