use Rattle.reset_names.proofs.Marking.{same_names, turned}
use Rattle.reset_names.proofs.Crossing.{fault_there, none_there}
use Rattle.reset_names.proofs.laws.resolved_circuits_have_the_same_name_faults.Goals as goal

pub returns-clause-faults : goal.returns-clause-faults
returns-clause-faults c circuit tree r fault =
    let s = same_names circuit tree r in
    (fault_there circuit tree s fault, fault_there tree circuit (turned circuit tree s) fault)

pub returns-clause-none : goal.returns-clause-none
returns-clause-none c circuit tree r none = none_there circuit tree (same_names circuit tree r) none
