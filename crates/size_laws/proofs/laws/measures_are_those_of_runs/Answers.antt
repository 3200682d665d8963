use Rattle.size_laws.proofs.Measured.{of_run}
use Rattle.size_laws.proofs.laws.measures_are_those_of_runs.Goals as goal

pub returns : goal.returns
returns c = λ fitted same within measure is main placed found order. of_run c.leaves_are_counted.ensures c.measured_paths_are_all.ensures fitted same within measure is main placed found order
