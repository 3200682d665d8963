use Rattle.std.proofs.Common.{rules}
use Rattle.width_solver.proofs.Targets.{connects_none}
use Rattle.width_solver.proofs.walk.connect.Goals as goal

pub returns-then-not-may_have_target-2 : goal.returns-then-not-may_have_target-2
returns-then-not-may_have_target-2 c = connects_none c.args.left.now c.args.right.now c.args.found.now (c.may_have_target.ensures (search rules)) (c.may_have_target-then-not-may_have_target.ensures (search rules))
