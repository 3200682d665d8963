use Rattle.circuit_texts.proofs.Accepted.{keeps_apart}
use Rattle.circuit_texts.proofs.state_laws.well_formed_circuits_keep_apart.Goals as goal

pub returns : goal.returns
returns c = λ fitted well stored. keeps_apart fitted well stored
