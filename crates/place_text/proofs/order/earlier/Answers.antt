use Rattle.place_text.specs.First.{only, stays, turns}
use Rattle.place_text.proofs.order.earlier.Goals as goal

pub returns-then-is_not_later : goal.returns-then-is_not_later
returns-then-is_not_later g c = rw c.in-Some.is (stays c.in-Some.best c.args.fault (rw c.if-is_not_later.true at c.is_not_later.ensures))

pub returns-else-is_not_later : goal.returns-else-is_not_later
returns-else-is_not_later g c = rw c.in-Some.is (turns c.in-Some.best c.args.fault (rw c.if-is_not_later.false at c.is_not_later.ensures))

pub returns-in-None : goal.returns-in-None
returns-in-None g c = rw c.in-None.is (only c.args.fault)
