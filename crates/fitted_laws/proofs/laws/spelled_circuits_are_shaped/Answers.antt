use Rattle.fitted_laws.proofs.Spelled.{spelled_shaped}
use Rattle.fitted_laws.proofs.laws.spelled_circuits_are_shaped.Goals as goal

pub returns : goal.returns
returns c = spelled_shaped
