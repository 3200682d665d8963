use Rattle.lowering_laws.proofs.Orders.{registers_are, takes_are, all_takes_are}
use Rattle.lowering_laws.proofs.read_laws.nets_have_the_registers_of_circuits.Goals as goal

pub returns-clause-next : goal.returns-clause-next
returns-clause-next c = registers_are

pub returns-clause-takes : goal.returns-clause-takes
returns-clause-takes c = takes_are

pub returns-clause-all_takes : goal.returns-clause-all_takes
returns-clause-all_takes c = all_takes_are
