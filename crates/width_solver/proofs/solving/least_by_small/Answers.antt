use Rattle.width_solver.proofs.Replacing.{least_first}
use Rattle.width_solver.proofs.solving.least_by_small.Goals as goal

pub returns : goal.returns
returns c = rw c.truncate.ensures.items (least_first c.args.count c.args.rules.now _ _ _ c.requires.rules c.in_ok-small.ensures (rw c.as_slice.ensures.value at c.in_ok-widths.ensures))
