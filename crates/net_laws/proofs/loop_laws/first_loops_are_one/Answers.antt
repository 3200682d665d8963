use Rattle.net_laws.proofs.FlatOrders.{one_first, no_first}
use Rattle.net_laws.proofs.loop_laws.first_loops_are_one.Goals as goal

pub returns-clause-one : goal.returns-clause-one
returns-clause-one c = λ design here other a b. one_first design here other a b

pub returns-clause-none : goal.returns-clause-none
returns-clause-none c = λ design place none a. no_first design place none a
