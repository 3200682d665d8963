use Rattle.place_text.proofs.Ordering.{one_first}
use Rattle.place_text.proofs.laws.one_fault_is_first.Goals as goal

pub returns : goal.returns
returns g c = one_first g.F.Fault.place g.F.Fault.rank g.met.F.Fault.one_each
