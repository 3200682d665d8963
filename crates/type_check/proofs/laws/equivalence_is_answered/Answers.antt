use Rattle.type_check.proofs.Equivalence.{yes, is_equivalent}
use Rattle.type_check.proofs.laws.equivalence_is_answered.Goals as goal

pub returns : goal.returns
returns c = λ left right. (is_equivalent left right, yes)
