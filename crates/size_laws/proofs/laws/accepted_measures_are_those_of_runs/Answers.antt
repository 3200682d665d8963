use Rattle.size_laws.proofs.Few.{within}
use Rattle.size_laws.proofs.laws.accepted_measures_are_those_of_runs.Goals as goal

pub returns-clause-run : goal.returns-clause-run
returns-clause-run c = λ fitted accepted none measure is main placed found order.
    c.measures_are_those_of_runs.ensures fitted (c.accepted_circuits_are_measured.ensures fitted accepted) (within fitted.checked.resolved none) measure is main placed found order

pub returns-clause-paths : goal.returns-clause-paths
returns-clause-paths c = λ fitted accepted none measure is main found.
    c.depths_are_those_of_paths.ensures fitted accepted.names (c.accepted_circuits_are_measured.ensures fitted accepted) (within fitted.checked.resolved none) measure is main found
