use Rattle.reference_flow.proofs.Declaring.{one_named, one_other}
use Rattle.reference_flow.proofs.declaration.where_named.Goals as goal

pub returns-then-name-id : goal.returns-then-name-id
returns-then-name-id c part = one_named c.args.name.now.id c.args.id part c.args.reached c.if-name-id.true

pub returns-else-name-id : goal.returns-else-name-id
returns-else-name-id c part m = one_other c.args.name.now.id c.args.id part c.if-name-id.false
