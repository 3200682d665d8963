use Rattle.place_text.proofs.Ordering.{either, further, same}
use Rattle.place_text.proofs.laws.the_order_is_total.Goals as goal

pub returns-clause-either : goal.returns-clause-either
returns-clause-either g c = either g.F.Fault.place g.F.Fault.rank

pub returns-clause-further : goal.returns-clause-further
returns-clause-further g c = further g.F.Fault.place g.F.Fault.rank

pub returns-clause-same : goal.returns-clause-same
returns-clause-same g c = same g.F.Fault.place g.F.Fault.rank g.met.F.Fault.one_each
