use Rattle.std.proofs.Common.{rules}
use Rattle.size_check.proofs.Summing.{call_some, found_past}
use Rattle.size_check.proofs.rounds.behind_call.Goals as goal

pub returns-in-Some-total_at : goal.returns-in-Some-total_at
returns-in-Some-total_at c d h =
    call_some c.args.names.now c.args.modules.now.all.now d c.args.totals.now c.args.call.now c.in-Some.number c.number.result c.in-Some-total_at.total c.deeper.result c.name_length.result
    h c.number.ensures c.in-Some.is (search rules) c.name_length.ensures c.deeper.ensures

pub returns-in-None : goal.returns-in-None
returns-in-None c d h =
    absurd (found_past c.args.names.now c.args.modules.now.all.now d c.args.totals.now c.args.call.now.target c.in-Some.number c.number.result h c.number.ensures c.in-Some.is (search rules))
