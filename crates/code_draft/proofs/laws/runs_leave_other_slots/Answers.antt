use Rattle.flat_code.specs.Fine.{nothing}
use Rattle.code_draft.proofs.Alone.{ran_leaves}
use Rattle.code_draft.proofs.laws.runs_leave_other_slots.Goals as goal

pub returns : goal.returns
returns c = λ d words inputs frame k e. ran_leaves d.wides words inputs k d.instrs nothing frame e
