use Rattle.fir_meaning.proofs.Literals.{least_is_least}
use Rattle.fir_meaning.proofs.laws.literals_have_the_least_width.Goals as goal

pub returns : goal.returns
returns c = λ kind n h. least_is_least kind n h
