use Rattle.fir_meaning.proofs.Nexts.{watched_rows_same}
use Rattle.fir_meaning.proofs.Settling.{state_itself}
use Rattle.fir_meaning.proofs.laws.watched_traces_agree.Goals as goal

pub returns : goal.returns
returns c = λ design all has none leaves_of takes watch are s given rows other one two. watched_rows_same design all has none leaves_of takes watch are (state_itself design s) one two
