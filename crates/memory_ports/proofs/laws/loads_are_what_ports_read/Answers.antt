use Rattle.memory_ports.proofs.Loads.{loaded_value, loaded_integer}
use Rattle.memory_ports.proofs.laws.loads_are_what_ports_read.Goals as goal

pub returns-clause-value : goal.returns-clause-value
returns-clause-value c = λ net s rho m k memory port read element there reads has. loaded_value net s rho m k memory port read element there reads has

pub returns-clause-integer : goal.returns-clause-integer
returns-clause-integer c = λ net s rho m k memory port read element there reads has within. loaded_integer net s rho m k memory port read element there reads has within
