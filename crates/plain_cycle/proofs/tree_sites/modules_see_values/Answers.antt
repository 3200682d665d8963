use Rattle.std.proofs.Common.{◌∙◌, ap, sym}
use Rattle.fir_meaning.specs.Values.{scene_of}
use Rattle.plain_values.specs.Sites.{scene_at, known_at, valuation_of}
use Rattle.plain_cycle.proofs.Seeing.{scene_is, known_is}
use Rattle.plain_cycle.proofs.tree_sites.modules_see_values.Goals as goal

pub returns-clause-scene : goal.returns-clause-scene
returns-clause-scene c = λ design sites declared layout path m at values.
    ap (λ l. scene_at l values path) layout.lists.sites ∙ (scene_is design layout.all layout.are path m at values ∙ ap (λ l. scene_of m path (valuation_of l values)) (sym layout.lists.sites))

pub returns-clause-known : goal.returns-clause-known
returns-clause-known c = λ design sites declared layout path m at. ap (λ l. known_at l path) layout.lists.sites ∙ known_is design layout.all layout.are path m at
