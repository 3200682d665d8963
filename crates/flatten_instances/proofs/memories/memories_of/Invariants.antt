use Rattle.std.proofs.Common.{take}
use Rattle.flatten_instances.specs.Flat.{OneByOne}
use Rattle.flatten_instances.specs.Plans.{MemoryAtSite}
use Rattle.flatten_instances.proofs.memories.memories_of.Given as goal

abbrev pub invariant-loop-site : goal.invariant-loop-site
invariant-loop-site l = OneByOne (MemoryAtSite l.driven l.plan) (take l.site-index l.plan.memories) l.memories
