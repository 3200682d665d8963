use Rattle.partition_code.proofs.StateCycles.{cycle_of}
use Rattle.partition_code.proofs.code_laws.cycles_of_states_are_cycles_of_words.Goals as goal

pub returns : goal.returns
returns c = λ net s w inside inputs given matched rho settled. cycle_of net s w inside inputs given matched rho settled
