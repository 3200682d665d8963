use Rattle.cone_cutter.proofs.Splitting.{union_closed, union_ordered}
use Rattle.cone_cutter.proofs.laws.partitions_have_what_they_read.Goals as goal

pub returns-clause-closed : goal.returns-clause-closed
returns-clause-closed c = union_closed

pub returns-clause-in_order : goal.returns-clause-in_order
returns-clause-in_order c = union_ordered
