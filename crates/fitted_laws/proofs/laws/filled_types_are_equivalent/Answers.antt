use Rattle.fitted_laws.proofs.Filling.{filled_equivalent}
use Rattle.fitted_laws.proofs.laws.filled_types_are_equivalent.Goals as goal

pub returns : goal.returns
returns c = filled_equivalent
