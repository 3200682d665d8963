use Rattle.lower_aggregates.proofs.RegisterLists.{register_leaves, register_at}
use Rattle.lower_aggregates.proofs.laws.registers_are_numbered.Goals as goal

pub returns-clause-leaves : goal.returns-clause-leaves
returns-clause-leaves c = λ entries m registers are. register_leaves entries 0 m.components registers are

pub returns-clause-each : goal.returns-clause-each
returns-clause-each c = λ entries m registers are i r e. register_at entries 0 m.components registers are i r e
