use Rattle.clock_check.proofs.Rooting.{rooted_in}
use Rattle.clock_check.proofs.laws.closed_sets_have_what_is_rooted.Goals as goal

pub returns : goal.returns
returns c = λ design set root closed sound x. (sound x, rooted_in design set root closed x)
