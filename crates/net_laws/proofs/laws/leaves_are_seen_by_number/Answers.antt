use Rattle.net_laws.proofs.Numbers.{valuation_at}
use Rattle.net_laws.proofs.laws.leaves_are_seen_by_number.Goals as goal

pub returns : goal.returns
returns c = λ design placed lists instant x y e. valuation_at design placed lists instant x y e
