use Rattle.fir_meaning.proofs.Nexts.{rows_same}
use Rattle.fir_meaning.proofs.Settling.{state_itself}
use Rattle.fir_meaning.proofs.laws.traces_agree.Goals as goal

pub returns : goal.returns
returns c = λ design all has none leaves_of takes s given rows other one two. rows_same design all has none leaves_of takes (state_itself design s) one two
