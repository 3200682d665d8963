use Rattle.cone_cutter.proofs.Examples.{crossing_is_cut}
use Rattle.cone_cutter.proofs.laws.ties_go_by_numbers.Goals as goal

pub returns : goal.returns
returns c = crossing_is_cut
