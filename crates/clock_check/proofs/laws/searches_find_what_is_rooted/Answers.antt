use Rattle.clock_check.proofs.Rooting.{searched_rooted, rooted_searched}
use Rattle.clock_check.proofs.laws.searches_find_what_is_rooted.Goals as goal

pub returns : goal.returns
returns c = λ design sinks root e links x. (searched_rooted design sinks root e links x, rooted_searched design sinks root e links x)
