use Rattle.type_check.proofs.Reaching.{leads_chosen}
use Rattle.type_check.proofs.whole.reference_at.Goals as goal

pub returns : goal.returns
returns c = leads_chosen c.args.expr.now c.first_chosen.result.now c.reference_of.result c.first_chosen.ensures c.reference_of.ensures
