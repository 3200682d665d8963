use Rattle.fir_meaning.proofs.Settling.{settled_agree}
use Rattle.fir_meaning.proofs.laws.settled_valuations_agree.Goals as goal

pub returns : goal.returns
returns c = λ design all has none leaves_of s given rho other one two x l. settled_agree design all has none leaves_of s given rho other one two x l
