use Rattle.part_compile.proofs.Shown.{shows_state}
use Rattle.part_compile.proofs.state_laws.settled_values_show_the_state.Goals as goal

pub returns : goal.returns
returns c = λ net words given rho w settled. shows_state net words given rho w settled
