use Rattle.flatten_instances.specs.Plans.{HasRegisters}
use Rattle.flatten_instances.proofs.Lists.{one_more_read}
use Rattle.flatten_instances.proofs.registers.register_tables.Goals as goal

pub loop-owner-preserved : goal.loop-owner-preserved
loop-owner-preserved c =
    one_more_read HasRegisters c.as_slice-owner-items.result.now c.args.driven.now.modules c.loop-owner.owner-index c.owner-item.result c.loop-owner.tables c.push.new.self c.in_ok-table.table
    c.as_slice-owner-items.ensures c.loop-owner-test.true c.owner-item.is c.loop-owner.invariant c.in_ok-push.ensures.ok c.in_ok-table.ensures
