use Rattle.flatten_instances.specs.declared.plan.Site.{Site}
use Rattle.flatten_instances.specs.Plans.{DriverAtSite}
use Rattle.flatten_instances.proofs.Lists.{item_there, one_more}
use Rattle.flatten_instances.proofs.Sites.{leaf_known}
use Rattle.flatten_instances.proofs.drivers.drivers_of.Goals as goal

pub driver_at-requires-clause-site : goal.driver_at-requires-clause-site
driver_at-requires-clause-site c =
    let d : Site = record { level = 0; number = 0 } in
    leaf_known c.args.driven.now c.args.plan.now c.requires c.loop-site.site-index _ (item_there c.as_slice-site-items.result.now c.args.plan.now.leaves c.loop-site.site-index d c.as_slice-site-items.ensures c.loop-site-test.true)

pub loop-site-preserved : goal.loop-site-preserved
loop-site-preserved c =
    let d : Site = record { level = 0; number = 0 } in
    one_more (DriverAtSite c.args.driven.now c.args.plan.now) c.as_slice-site-items.result.now c.args.plan.now.leaves c.loop-site.site-index d c.loop-site.drivers c.push.new.self c.in_ok-driver.driver
    c.as_slice-site-items.ensures c.loop-site-test.true c.loop-site.invariant c.in_ok-push.ensures.ok c.in_ok-driver.ensures
