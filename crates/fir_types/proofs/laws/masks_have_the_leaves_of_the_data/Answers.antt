use Rattle.fir_types.proofs.Masks.{masked}
use Rattle.fir_types.proofs.laws.masks_have_the_leaves_of_the_data.Goals as goal

pub returns-clause-same : goal.returns-clause-same
returns-clause-same c = λ typ. (masked typ).same

pub returns-clause-bits : goal.returns-clause-bits
returns-clause-bits c = λ typ. (masked typ).bits
