use Rattle.fir_meaning.proofs.Nexts.{next_same}
use Rattle.fir_meaning.proofs.laws.next_states_agree.Goals as goal

pub returns : goal.returns
returns c = λ design has takes s t rho other kept every. next_same design has takes s t rho other kept every
