use Rattle.std.proofs.Common.{subst, sym}
use Rattle.plain_values.specs.Sites.{AreNarrow}
use Rattle.plain_cycle.proofs.Seeing.{sites_narrow}
use Rattle.plain_cycle.proofs.tree_sites.layouts_are_narrow.Goals as goal

pub returns : goal.returns
returns c = λ fitted sites declared well layout. subst AreNarrow (sym layout.lists.sites) (sites_narrow fitted well layout.all layout.are)
