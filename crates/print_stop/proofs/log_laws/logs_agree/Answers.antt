use Rattle.fir_meaning.proofs.Settling.{state_itself}
use Rattle.print_stop.proofs.Agreeing.{logs_same}
use Rattle.print_stop.proofs.log_laws.logs_agree.Goals as goal

pub returns : goal.returns
returns c = λ design all has none leaves_of takes items nodes sound cycle state given printed other line last one two. logs_same design all has none leaves_of takes items nodes sound (state_itself design state) one two
