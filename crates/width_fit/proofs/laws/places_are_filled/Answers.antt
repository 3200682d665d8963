use Rattle.width_fit.proofs.Filled.{places_filled}
use Rattle.width_fit.proofs.laws.places_are_filled.Goals as goal

pub returns : goal.returns
returns c = places_filled
