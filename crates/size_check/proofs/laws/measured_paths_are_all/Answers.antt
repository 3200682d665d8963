use Rattle.size_check.proofs.Ending.{all_paths}
use Rattle.size_check.proofs.laws.measured_paths_are_all.Goals as goal

pub returns : goal.returns
returns c = λ circuit h more. all_paths circuit h more
