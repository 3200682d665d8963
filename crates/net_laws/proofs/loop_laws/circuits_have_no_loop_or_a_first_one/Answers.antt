use Rattle.net_laws.proofs.Verdicts.{none_or_first_of}
use Rattle.net_laws.proofs.loop_laws.circuits_have_no_loop_or_a_first_one.Goals as goal

pub returns : goal.returns
returns c = λ texts design net serves. none_or_first_of texts design net serves
