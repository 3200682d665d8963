use Rattle.check_laws.proofs.Typing.{parts_exactly, types_exactly}
use Rattle.check_laws.proofs.laws.expressions_have_types.Goals as goal

pub returns-clause-parts : goal.returns-clause-parts
returns-clause-parts c = parts_exactly

pub returns-clause-types : goal.returns-clause-types
returns-clause-types c = types_exactly
