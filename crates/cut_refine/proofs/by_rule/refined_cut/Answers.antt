use Rattle.cut_refine.proofs.Once.{refined_split}
use Rattle.cut_refine.proofs.by_rule.refined_cut.Goals as goal

pub returns-clause-split : goal.returns-clause-split
returns-clause-split c = let it = c.in_ok-refined.ensures in refined_split c.args.ordered.now c.args.watch.now it.start c.in_ok-refined.refined it.refines
