use Rattle.circuit_texts.proofs.States.{state_matches}
use Rattle.circuit_texts.proofs.state_laws.states_of_nets_are_states_of_circuits.Goals as goal

pub returns : goal.returns
returns c = λ texts design net serves apart t. state_matches texts design net serves apart t
