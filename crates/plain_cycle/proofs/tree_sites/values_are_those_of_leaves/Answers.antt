use Rattle.plain_cycle.proofs.Valuing.{values_told}
use Rattle.plain_cycle.proofs.tree_sites.values_are_those_of_leaves.Goals as goal

pub returns : goal.returns
returns c = λ design all are rule values is path name way. values_told design all are rule values is path name way
