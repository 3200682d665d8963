use Rattle.std.proofs.Common.{take}
use Rattle.module_table.specs.Leading.{AreBehind}
use Rattle.module_table.proofs.reference.part_along.Given as goal

abbrev pub invariant-loop-suffix : goal.invariant-loop-suffix
invariant-loop-suffix l = AreBehind (take l.suffix-index l.suffixes) l.fn.base.typ.now l.reached.typ.now
