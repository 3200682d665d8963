use Rattle.std.proofs.Common.{◌∙◌, ap}
use Rattle.plain_values.specs.Sites.{site_at}
use Rattle.plain_cycle.proofs.Seeing.{found_at}
use Rattle.plain_cycle.proofs.tree_sites.layouts_find_components.Goals as goal

pub returns : goal.returns
returns c = λ design sites declared layout path name. ap (λ l. site_at l path name) layout.lists.sites ∙ found_at design layout.all layout.are path name
