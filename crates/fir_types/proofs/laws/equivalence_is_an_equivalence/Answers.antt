use Rattle.fir_types.proofs.Equivalences.{alike, turned_round, on_and_on}
use Rattle.fir_types.proofs.laws.equivalence_is_an_equivalence.Goals as goal

pub returns-clause-itself : goal.returns-clause-itself
returns-clause-itself c = alike

pub returns-clause-both_ways : goal.returns-clause-both_ways
returns-clause-both_ways c = λ left right e. turned_round e

pub returns-clause-further : goal.returns-clause-further
returns-clause-further c = λ left middle right e f. on_and_on e f
