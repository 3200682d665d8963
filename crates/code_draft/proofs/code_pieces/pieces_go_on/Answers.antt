use Rattle.code_draft.proofs.Building.{adds_not, adds_then, adds_segment, adds_so}
use Rattle.code_draft.proofs.code_pieces.pieces_go_on.Goals as goal

pub returns-clause-none : goal.returns-clause-none
returns-clause-none c = adds_not

pub returns-clause-one : goal.returns-clause-one
returns-clause-one c = adds_segment

pub returns-clause-more : goal.returns-clause-more
returns-clause-more c = adds_then

pub returns-clause-wider : goal.returns-clause-wider
returns-clause-wider c = adds_so
