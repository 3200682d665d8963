use Rattle.fir_types.proofs.Counts.{counted}
use Rattle.fir_types.proofs.laws.leaves_are_counted.Goals as goal

pub returns : goal.returns
returns c = counted
