use Rattle.item_laws.proofs.Modules.{two_drivers}
use Rattle.item_laws.proofs.laws.wires_have_two_connects.Goals as goal

pub returns : goal.returns
returns c = λ text list major main modules names are is m k lines holder condition here made at small. two_drivers text list major main modules names are is m k lines holder condition here made at small
