use Rattle.fir_types.proofs.Lines.{bits_least}
use Rattle.fir_types.proofs.laws.address_bits_are_the_least.Goals as goal

pub returns-clause-some : goal.returns-clause-some
returns-clause-some c = λ depth r. (bits_least depth r).above

pub returns-clause-enough : goal.returns-clause-enough
returns-clause-enough c = λ depth r. (bits_least depth r).reaches

pub returns-clause-least : goal.returns-clause-least
returns-clause-least c = λ depth bits r. (bits_least depth r).lowest bits
