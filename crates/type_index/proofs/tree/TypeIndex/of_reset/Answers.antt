use Rattle.type_index.proofs.Built.{reset_matches}
use Rattle.type_index.proofs.tree.TypeIndex.of_reset.Goals as goal

pub returns : goal.returns
returns c = rw c.of_ground.ensures (λ texts typ is. reset_matches texts typ is)
