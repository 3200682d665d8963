use Rattle.memory_ports.proofs.WellFormed.{load_assigned, load_driver}
use Rattle.memory_ports.proofs.laws.data_of_the_cycle_are_loads.Goals as goal

pub returns-clause-assigned : goal.returns-clause-assigned
returns-clause-assigned c = λ flat net is sound m p k x memory port read r early. load_assigned flat net is sound m p k x memory port read r early

pub returns-clause-driver : goal.returns-clause-driver
returns-clause-driver c = λ flat net is sound m p k x memory port read r early. load_driver flat net is sound m p k x memory port read r early
