use Rattle.std.proofs.Common.{rules}
use Rattle.size_check.proofs.Summing.{found_some, found_past}
use Rattle.size_check.proofs.rounds.found.Goals as goal

pub returns-in-Some-total_at : goal.returns-in-Some-total_at
returns-in-Some-total_at c texts d h =
    found_some texts c.args.modules.now.all.now d c.args.totals.now c.args.name c.in-Some.number c.number.result c.in-Some-total_at.total
    h c.number.ensures c.in-Some.is (search rules)

pub returns-in-None : goal.returns-in-None
returns-in-None c texts d h =
    absurd (found_past texts c.args.modules.now.all.now d c.args.totals.now c.args.name c.in-Some.number c.number.result h c.number.ensures c.in-Some.is (search rules))
