use Rattle.print_stop.proofs.Arguments.{argument_shown}
use Rattle.print_stop.proofs.print_laws.settled_arguments_have_their_values.Goals as goal

pub returns : goal.returns
returns c = λ design s given rho path m component e v settled there declared sort is. argument_shown design s given rho path m component e v settled there declared sort is
