use Rattle.reset_search.proofs.Counts.{as_many}
use Rattle.reset_search.proofs.laws.grounds_are_the_places_with_widths.Goals as goal

pub returns : goal.returns
returns c typ = as_many typ
