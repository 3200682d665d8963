use Rattle.settling_laws.proofs.Listing.{has_leaves}
use Rattle.settling_laws.proofs.leaf_reads.leaves_are_finitely_many.Goals as goal

pub returns : goal.returns
returns c = has_leaves
