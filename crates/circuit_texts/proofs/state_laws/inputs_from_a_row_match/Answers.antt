use Rattle.circuit_texts.proofs.Inputs.{all_given_from}
use Rattle.circuit_texts.proofs.state_laws.inputs_from_a_row_match.Goals as goal

pub returns : goal.returns
returns c = λ texts design net serves ports fed stimulus formed start are. all_given_from texts design net serves ports fed stimulus formed start are
