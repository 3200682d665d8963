use Rattle.std.proofs.Common.{length}
use Rattle.flat_code.specs.Fine.{nothing}
use Rattle.flat_code.proofs.Solving.{late}
use Rattle.code_draft.proofs.Running.{run_solves}
use Rattle.code_draft.proofs.laws.runs_solve.Goals as goal

pub returns-clause-solved : goal.returns-clause-solved
returns-clause-solved c = λ d words inputs frame is le plain. run_solves d words inputs frame is le plain

pub returns-clause-published : goal.returns-clause-published
returns-clause-published c = λ d words inputs frame is.
    late d.ports d.wides words inputs d.slots d.words (length d.ports) (length d.wides) is.wides d.instrs nothing frame is.single
