use Rattle.cone_cutter.proofs.Examples.{sharing_is_cut}
use Rattle.cone_cutter.proofs.laws.shared_assignments_are_replicated.Goals as goal

pub returns : goal.returns
returns c = sharing_is_cut
