use Rattle.lower_aggregates.proofs.TypedSorts.{sorts_typed}
use Rattle.lower_aggregates.proofs.laws.resets_are_typed.Goals as goal

pub returns : goal.returns
returns c = λ known holder h. sorts_typed known holder h
