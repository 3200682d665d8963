use Rattle.check_laws.proofs.Shaping.{choices_three, shaped_typed, spelled_typed}
use Rattle.check_laws.proofs.shaped_nodes.shaped_circuits_have_typed_nodes.Goals as goal

pub returns-clause-choices : goal.returns-clause-choices
returns-clause-choices c = choices_three

pub returns-clause-types : goal.returns-clause-types
returns-clause-types c = shaped_typed

pub returns-clause-spelled : goal.returns-clause-spelled
returns-clause-spelled c = spelled_typed
