use Rattle.std.proofs.Common.{ap, sym, ◌∙◌}
use Rattle.ground_net.specs.declared.circuit.GroundLeaf.{GroundLeaf}
use Rattle.flatten_instances.specs.Flat.{is_input}
use Rattle.flatten_instances.proofs.Lists.{item_read}
use Rattle.flatten_instances.proofs.Sites.{has_holder, has_table, level_begins, leaf_within, driver_own, driver_held}
use Rattle.flatten_instances.proofs.drivers.driver_at.Goals as goal

pub held_driver-requires-clause-holder : goal.held_driver-requires-clause-holder
held_driver-requires-clause-holder c =
    has_holder c.args.driven.now c.args.plan.now c.requires.site.0.path c.level_of-level.result.now (level_begins c.args.driven.now c.args.plan.now c.requires.site.0 c.args.site c.requires.site.1 c.level_of-level.result.now c.level_of-level.ensures)

pub table_of-numbers-requires : goal.table_of-numbers-requires
table_of-numbers-requires c = has_table c.args.driven.now c.args.plan.now c.requires.plan c.args.site.level c.level_of-level.result.now c.level_of-level.ensures

pub returns-in_ok-driver : goal.returns-in_ok-driver
returns-in_ok-driver c = λ spots s sites site.
    let level = c.level_of-level.result.now in
    let owner = c.module_of-owner.result.now in
    let within = leaf_within c.args.driven.now c.args.plan.now s c.args.site site level c.level_of-level.ensures owner c.module_of-owner.ensures in
    driver_held c.args.driven.now c.args.plan.now c.requires.plan spots sites s c.args.site site level c.level_of-level.ensures owner c.index-as_slice-site.result c.module_of-owner.ensures
    (item_read c.as_slice.result.now owner.leaves c.args.site.number c.index-as_slice-site.result c.as_slice.ensures within c.index-as_slice-site.is)
    c.in_ok-driver.driver (ap (λ (l : GroundLeaf). is_input l.role) c.index-as_slice-site.is ∙ (sym c.is_given.ensures ∙ c.if-is_given.true)) c.in_ok-driver.ensures

pub returns-in_ok-driver-2 : goal.returns-in_ok-driver-2
returns-in_ok-driver-2 c = λ spots s sites site.
    let level = c.level_of-level.result.now in
    let owner = c.module_of-owner.result.now in
    let within = leaf_within c.args.driven.now c.args.plan.now s c.args.site site level c.level_of-level.ensures owner c.module_of-owner.ensures in
    driver_own c.args.driven.now c.args.plan.now c.requires.plan spots sites s c.args.site site level c.level_of-level.ensures owner c.index-as_slice-site.result c.module_of-owner.ensures
    (item_read c.as_slice.result.now owner.leaves c.args.site.number c.index-as_slice-site.result c.as_slice.ensures within c.index-as_slice-site.is)
    c.table_of-numbers.result.now c.in_ok-driver-2.driver (ap (λ (l : GroundLeaf). is_input l.role) c.index-as_slice-site.is ∙ (sym c.is_given.ensures ∙ c.if-is_given.false)) c.table_of-numbers.ensures c.in_ok-driver-2.ensures
