use Rattle.cut_refine.proofs.Once.{refined_split}
use Rattle.cut_refine.proofs.laws.refined_cuts_are_splits.Goals as goal

pub returns : goal.returns
returns c = refined_split
