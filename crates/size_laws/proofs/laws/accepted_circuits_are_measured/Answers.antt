use Rattle.size_laws.proofs.Accepted.{are_measured}
use Rattle.size_laws.proofs.laws.accepted_circuits_are_measured.Goals as goal

pub returns : goal.returns
returns c = are_measured c.filled_types_are_equivalent.ensures c.fitted_declarations_are_those_of_the_text.ensures.types c.names_are_declared_once.ensures
