use Rattle.std.proofs.Common.{◌≡◌, drop, slice_get}
use Rattle.plain_run.specs.Leaves.{leaves_of_sites}
use Rattle.plain_run.proofs.flat_order.leaf_numbered.Given as goal

abbrev pub invariant-loop-site : goal.invariant-loop-site
invariant-loop-site l = slice_get (leaves_of_sites l.sites) l.number ≡ slice_get (leaves_of_sites (drop l.site-index l.sites)) l.left
