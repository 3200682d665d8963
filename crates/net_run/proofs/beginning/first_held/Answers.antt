use Rattle.net_run.proofs.Zeros.{element_more}
use Rattle.net_run.proofs.beginning.first_held.Goals as goal

pub loop-preserved : goal.loop-preserved
loop-preserved c = element_more c.args.memory.now c.loop.counter c.loop.held.items c.push_element.new.held.items c.loop.invariant c.in_ok-push_element.ensures
