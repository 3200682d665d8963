use Rattle.lower_aggregates.proofs.PortNumbers.{ports_are}
use Rattle.lower_aggregates.proofs.laws.ports_have_their_numbers.Goals as goal

pub returns : goal.returns
returns c = λ m c' memory element first bundle numbers q port np s t. ports_are m c' memory element first bundle numbers q port np s t
