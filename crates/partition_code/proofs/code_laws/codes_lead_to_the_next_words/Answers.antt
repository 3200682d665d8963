use Rattle.partition_code.proofs.Whole.{next_words}
use Rattle.partition_code.proofs.code_laws.codes_lead_to_the_next_words.Goals as goal

pub returns : goal.returns
returns c = λ codes cut s inside inputs given matched rho settled. next_words codes cut s inside inputs given matched rho settled
