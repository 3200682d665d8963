use Rattle.std.proofs.Common.{rules}
use Rattle.width_solver.proofs.Targets.{invalidates_none}
use Rattle.width_solver.proofs.walk.invalidate.Goals as goal

pub returns-then-not-may_have_target : goal.returns-then-not-may_have_target
returns-then-not-may_have_target c = invalidates_none c.args.target.now c.args.found.now (c.may_have_target.ensures (search rules))
