use Rattle.circuit_texts.proofs.DumpsOnce.{no_fault}
use Rattle.circuit_texts.proofs.dump_laws.dumps_have_their_names.Goals as goal

pub returns : goal.returns
returns c = λ texts design names stimulus bytes dump none. no_fault texts design names stimulus bytes dump none
