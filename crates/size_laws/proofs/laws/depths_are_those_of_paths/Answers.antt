use Rattle.size_laws.proofs.Measured.{of_paths}
use Rattle.size_laws.proofs.laws.depths_are_those_of_paths.Goals as goal

pub returns : goal.returns
returns c = λ fitted none same within measure is main found. of_paths c.measured_paths_are_all.ensures fitted (c.components_are_named.ensures fitted none) same within measure is main found
