use Rattle.width_laws.proofs.Reached.{places_have_numbers}
use Rattle.width_laws.proofs.fit_laws.fitted_places_have_numbers.Goals as goal

pub returns : goal.returns
returns c = places_have_numbers
