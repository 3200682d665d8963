use Rattle.flatten_instances.specs.declared.plan.MemorySite.{MemorySite}
use Rattle.flatten_instances.specs.Plans.{MemoryAtSite}
use Rattle.flatten_instances.proofs.Lists.{item_there, one_more}
use Rattle.flatten_instances.proofs.Sites.{memory_known}
use Rattle.flatten_instances.proofs.memories.memories_of.Goals as goal

pub memory_at-requires-clause-site : goal.memory_at-requires-clause-site
memory_at-requires-clause-site c =
    let d : MemorySite = record { level = 0; number = 0; before = 0 } in
    memory_known c.args.driven.now c.args.plan.now c.requires c.loop-site.site-index _ (item_there c.as_slice-site-items.result.now c.args.plan.now.memories c.loop-site.site-index d c.as_slice-site-items.ensures c.loop-site-test.true)

pub loop-site-preserved : goal.loop-site-preserved
loop-site-preserved c =
    let d : MemorySite = record { level = 0; number = 0; before = 0 } in
    one_more (MemoryAtSite c.args.driven.now c.args.plan.now) c.as_slice-site-items.result.now c.args.plan.now.memories c.loop-site.site-index d c.loop-site.memories c.push.new.self c.in_ok-memory.memory
    c.as_slice-site-items.ensures c.loop-site-test.true c.loop-site.invariant c.in_ok-push.ensures.ok c.in_ok-memory.ensures
