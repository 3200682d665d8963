use Rattle.settling_laws.proofs.Driven.{block_fits}
use Rattle.settling_laws.proofs.leaf_reads.driven_leaves_are_fitted.Goals as goal

pub returns : goal.returns
returns c = block_fits
