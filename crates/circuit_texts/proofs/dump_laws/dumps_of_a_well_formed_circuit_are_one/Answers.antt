use Rattle.circuit_texts.proofs.DumpsOnce.{one_dump}
use Rattle.circuit_texts.proofs.dump_laws.dumps_of_a_well_formed_circuit_are_one.Goals as goal

pub returns : goal.returns
returns c = λ texts fitted well none names stimulus bytes other a b. one_dump texts fitted well none names stimulus bytes other a b
