use Rattle.ground_net.proofs.Placing.{registers_back, contents_back, captured_back}
use Rattle.ground_net.proofs.laws.words_and_back.Goals as goal

pub returns-clause-registers : goal.returns-clause-registers
returns-clause-registers c = λ net s n t e. registers_back net s n t e

pub returns-clause-contents : goal.returns-clause-contents
returns-clause-contents c = λ net s m element k memory t e f h. contents_back net s m element k memory t e f h

pub returns-clause-captured : goal.returns-clause-captured
returns-clause-captured c = λ net s n t e. captured_back net s n t e
