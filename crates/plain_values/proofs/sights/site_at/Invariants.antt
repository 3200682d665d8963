use Rattle.std.proofs.Common.{◌≡◌, drop}
use Rattle.plain_values.specs.Sites.{site_at}
use Rattle.plain_values.proofs.sights.site_at.Given as goal

abbrev pub invariant-loop-site : goal.invariant-loop-site
invariant-loop-site l = site_at l.sites l.path l.name ≡ site_at (drop l.site-index l.sites) l.path l.name
