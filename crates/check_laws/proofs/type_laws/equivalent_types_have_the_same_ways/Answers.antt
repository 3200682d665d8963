use Rattle.fir_types.proofs.Ways.{same_ways}
use Rattle.check_laws.proofs.Sorts.{same_kinds, have_kinds}
use Rattle.check_laws.proofs.type_laws.equivalent_types_have_the_same_ways.Goals as goal

pub returns-clause-ways : goal.returns-clause-ways
returns-clause-ways c = λ left right e. same_ways e

pub returns-clause-kinds : goal.returns-clause-kinds
returns-clause-kinds c = λ left right e. same_kinds e

pub returns-clause-ground : goal.returns-clause-ground
returns-clause-ground c = have_kinds
