use Rattle.cut_refine.proofs.Once.{rows_least}
use Rattle.cut_refine.proofs.laws.rows_lower_nothing.Goals as goal

pub returns : goal.returns
returns c = rows_least
