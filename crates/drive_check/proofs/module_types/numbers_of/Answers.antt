use Rattle.drive_check.proofs.Placing.{placed_more}
use Rattle.drive_check.proofs.module_types.numbers_of.Goals as goal

pub loop-number-preserved : goal.loop-number-preserved
loop-number-preserved c = placed_more c.args.names.now c.loop-number.number _ c.loop-number.numbers.entries c.insert_new.new.numbers.entries c.loop-number-test.true c.loop-number.invariant
    c.in_ok-insert_new.ensures
