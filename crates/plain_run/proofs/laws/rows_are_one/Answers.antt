use Rattle.plain_run.proofs.Once.{rows_once}
use Rattle.plain_run.proofs.laws.rows_are_one.Goals as goal

pub returns : goal.returns
returns c = λ fitted well none watch s given rows other one two. rows_once fitted well c.flat_orders_are_one.ensures none watch s given rows other one two
