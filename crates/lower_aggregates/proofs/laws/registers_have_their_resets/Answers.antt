use Rattle.lower_aggregates.proofs.Together.{resets_are}
use Rattle.lower_aggregates.proofs.laws.registers_have_their_resets.Goals as goal

pub returns : goal.returns
returns c = λ holder m table has entries knows typed types registers are i r y e f. resets_are holder m table has entries knows typed types registers are i r y e f
