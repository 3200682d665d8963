use Rattle.fir_types.proofs.Masks.{straight}
use Rattle.fir_types.proofs.laws.passive_types_have_no_turned_leaf.Goals as goal

pub returns : goal.returns
returns c = straight
