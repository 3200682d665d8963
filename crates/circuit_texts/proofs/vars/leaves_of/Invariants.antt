use Rattle.std.proofs.Common.{take}
use Rattle.std.specs.List.{AllZip}
use Rattle.circuit_texts.specs.NetNames.{IsLeafAt}
use Rattle.circuit_texts.proofs.vars.leaves_of.Given as goal

abbrev pub invariant-loop-number : goal.invariant-loop-number
invariant-loop-number l = AllZip (IsLeafAt l.leaves) (take l.number-index l.watch) l.vars
