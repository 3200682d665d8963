use Rattle.partition_code.proofs.StateCycles.{outputs_of}
use Rattle.partition_code.proofs.code_laws.codes_put_out_settled_values.Goals as goal

pub returns : goal.returns
returns c = λ codes cut k code e s inside inputs given matched rho settled. outputs_of codes cut k code e s inside inputs given matched rho settled
