use Rattle.lower_aggregates.proofs.Stored.{stored_is}
use Rattle.lower_aggregates.proofs.laws.ports_show_their_elements.Goals as goal

pub returns : goal.returns
returns c = λ texts memory element listed m e f. stored_is texts memory element listed m e f
