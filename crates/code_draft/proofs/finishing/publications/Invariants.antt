use Rattle.std.proofs.Common.{◌≡◌, ◌+◌, drop}
use Rattle.flat_code.specs.Meaning.{pushes}
use Rattle.code_draft.proofs.finishing.publications.Given as goal

abbrev pub invariant-loop-instr : goal.invariant-loop-instr
invariant-loop-instr l = l.most + pushes (drop l.instr-index l.instrs) ≡ pushes l.instrs
