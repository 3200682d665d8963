use Rattle.std.proofs.Common.{take}
use Rattle.flatten_instances.specs.Flat.{OneByOne}
use Rattle.flatten_instances.specs.Plans.{LeafAtSite}
use Rattle.flatten_instances.proofs.leaves.leaves_of.Given as goal

abbrev pub invariant-loop-site : goal.invariant-loop-site
invariant-loop-site l = OneByOne (LeafAtSite l.driven l.plan) (take l.site-index l.plan.leaves) l.leaves
