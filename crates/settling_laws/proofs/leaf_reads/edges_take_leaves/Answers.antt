use Rattle.settling_laws.proofs.Reading.{takes_leaves}
use Rattle.settling_laws.proofs.leaf_reads.edges_take_leaves.Goals as goal

pub returns : goal.returns
returns c = takes_leaves
