use Rattle.code_draft.proofs.Building.{assigns_not, assigns_push, assigns_same}
use Rattle.code_draft.proofs.code_pieces.leaves_come_in_turn.Goals as goal

pub returns-clause-none : goal.returns-clause-none
returns-clause-none c = assigns_not

pub returns-clause-more : goal.returns-clause-more
returns-clause-more c = assigns_push

pub returns-clause-same : goal.returns-clause-same
returns-clause-same c locations others reads counts = assigns_same locations reads counts others
