use Rattle.circuit_texts.proofs.Begun.{starts_are_begins}
use Rattle.circuit_texts.proofs.state_laws.starts_are_begins.Goals as goal

pub returns : goal.returns
returns c = λ texts design net serves apart begin snapshot start. starts_are_begins texts design net serves apart begin snapshot start
