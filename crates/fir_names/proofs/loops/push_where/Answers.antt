use Rattle.fir_names.proofs.Cycles.{told_where}
use Rattle.fir_names.proofs.loops.push_where.Goals as goal

pub returns-in_ok-push : goal.returns-in_ok-push
returns-in_ok-push c = rw c.in_ok-push.ensures.items (told_where c.args.loops c.args.edge c.args.faults.now.items c.if-loops.true)
