use Rattle.lower_aggregates.proofs.Together.{instances_are}
use Rattle.lower_aggregates.proofs.laws.instances_are_those_of_modules.Goals as goal

pub returns : goal.returns
returns c = λ texts circuit numbers m made means e i part gi f g. instances_are texts circuit numbers m made means e i part gi f g
