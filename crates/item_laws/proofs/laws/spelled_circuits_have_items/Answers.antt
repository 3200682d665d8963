use Rattle.item_laws.proofs.Sound.{spelled_items}
use Rattle.item_laws.proofs.laws.spelled_circuits_have_items.Goals as goal

pub returns : goal.returns
returns c = λ text list circuit fitted widths is turns formed fits. spelled_items text list circuit fitted widths is turns formed fits
