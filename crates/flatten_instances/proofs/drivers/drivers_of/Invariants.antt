use Rattle.std.proofs.Common.{take}
use Rattle.flatten_instances.specs.Flat.{OneByOne}
use Rattle.flatten_instances.specs.Plans.{DriverAtSite}
use Rattle.flatten_instances.proofs.drivers.drivers_of.Given as goal

abbrev pub invariant-loop-site : goal.invariant-loop-site
invariant-loop-site l = OneByOne (DriverAtSite l.driven l.plan) (take l.site-index l.plan.leaves) l.drivers
