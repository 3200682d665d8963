use Rattle.flatten_instances.specs.declared.plan.Site.{Site}
use Rattle.flatten_instances.specs.Plans.{IsLeafSite}
use Rattle.flatten_instances.proofs.Lists.{item_there, partner}
use Rattle.flatten_instances.proofs.Sites.{leaf_known, has_table}
use Rattle.flatten_instances.proofs.RegisterTables.{registers_more}
use Rattle.flatten_instances.proofs.registers.registers_of.Goals as goal

pub register_at-register-requires-clause-site : goal.register_at-register-requires-clause-site
register_at-register-requires-clause-site c =
    let d : Site = record { level = 0; number = 0 } in
    leaf_known c.args.driven.now c.args.plan.now c.requires c.loop-site.site-index _ (item_there c.as_slice-site-items.result.now c.args.plan.now.leaves c.loop-site.site-index d c.as_slice-site-items.ensures c.loop-site-test.true)

pub table_of-numbers-requires : goal.table_of-numbers-requires
table_of-numbers-requires c =
    let d : Site = record { level = 0; number = 0 } in
    let known = leaf_known c.args.driven.now c.args.plan.now c.requires c.loop-site.site-index _ (item_there c.as_slice-site-items.result.now c.args.plan.now.leaves c.loop-site.site-index d c.as_slice-site-items.ensures c.loop-site-test.true) in
    has_table c.args.driven.now c.args.plan.now c.requires _ known.1.level.level known.1.level.there

pub loop-site-preserved : goal.loop-site-preserved
loop-site-preserved c = λ spots sites.
    let d : Site = record { level = 0; number = 0 } in
    let at = item_there c.as_slice-site-items.result.now c.args.plan.now.leaves c.loop-site.site-index d c.as_slice-site-items.ensures c.loop-site-test.true in
    let mine = partner (IsLeafSite c.args.driven.now c.args.plan.now.levels) spots c.args.plan.now.leaves c.loop-site.site-index _ sites at in
    registers_more c.args.driven.now c.args.plan.now c.requires spots sites c.loop-site.site-index mine.0 _ mine.1 mine.2 c.table_of-numbers.result.now c.table_of-numbers.ensures _
    (c.register_at-register.ensures mine.0 mine.2) c.loop-site.registers c.push_register.new.registers c.in_ok-push_register.ensures (c.loop-site.invariant spots sites)
