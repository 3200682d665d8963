use Rattle.cut_refine.proofs.Once.{refined_one}
use Rattle.cut_refine.proofs.laws.refined_cuts_are_one.Goals as goal

pub returns : goal.returns
returns c = refined_one
