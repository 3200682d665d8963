use Rattle.reset_search.proofs.Stays.{type_stays}
use Rattle.reset_search.proofs.laws.types_stay_where_nothing_is_reached.Goals as goal

pub returns : goal.returns
returns c typ n = type_stays typ n
