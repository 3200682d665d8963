use Rattle.circuit_texts.proofs.LogsOnce.{one_log}
use Rattle.circuit_texts.proofs.log_laws.logs_of_a_well_formed_circuit_are_one.Goals as goal

pub returns : goal.returns
returns c = λ texts fitted prints well none has given bytes other a b. one_log texts fitted prints well none has given bytes other a b
