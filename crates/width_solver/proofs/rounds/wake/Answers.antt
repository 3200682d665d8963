use Rattle.width_solver.proofs.Waking.{wakes_more}
use Rattle.width_solver.proofs.rounds.wake.Goals as goal

pub loop-number-preserved : goal.loop-number-preserved
loop-number-preserved c = wakes_more c.args.numbers.now _ _ _ _ _ _ _ _ c.loop-number-test.true c.loop-number.invariant c.in_ok-wake_one.ensures
