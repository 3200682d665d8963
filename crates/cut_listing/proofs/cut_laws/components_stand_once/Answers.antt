use Rattle.cut_listing.proofs.Accepted.{stand_once}
use Rattle.cut_listing.proofs.cut_laws.components_stand_once.Goals as goal

pub returns : goal.returns
returns c = λ fitted well main found placed order. stand_once fitted well main found placed order
