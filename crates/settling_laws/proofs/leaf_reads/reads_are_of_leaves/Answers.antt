use Rattle.settling_laws.proofs.Reading.{reads_leaf}
use Rattle.settling_laws.proofs.leaf_reads.reads_are_of_leaves.Goals as goal

pub returns : goal.returns
returns c = reads_leaf
