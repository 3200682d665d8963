use Rattle.std.proofs.Common.{take}
use Rattle.flat_code.specs.Fine.{AreFine}
use Rattle.net_cases.proofs.code_cases.codes.are_fine.Given as goal

abbrev pub invariant-loop-instr : goal.invariant-loop-instr
invariant-loop-instr l = AreFine l.slots l.words 0 l.wides (take l.instr-index l.instrs)
