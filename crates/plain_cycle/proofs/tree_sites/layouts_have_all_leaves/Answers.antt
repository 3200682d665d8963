use Rattle.plain_cycle.proofs.Seeing.{has_leaves}
use Rattle.plain_cycle.proofs.tree_sites.layouts_have_all_leaves.Goals as goal

pub returns : goal.returns
returns c = λ design all are some has. has_leaves design all are some has
