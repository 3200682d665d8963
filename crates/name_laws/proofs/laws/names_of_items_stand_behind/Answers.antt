use Rattle.name_laws.proofs.Items.{circuit_adds}
use Rattle.name_laws.proofs.laws.names_of_items_stand_behind.Goals as goal

pub returns : goal.returns
returns c = λ main modules names. circuit_adds main modules names
