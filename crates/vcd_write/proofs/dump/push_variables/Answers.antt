use Rattle.vcd_write.proofs.Steps.{variable_more}
use Rattle.vcd_write.proofs.dump.push_variables.Goals as goal

pub loop-number-preserved : goal.loop-number-preserved
loop-number-preserved c = variable_more c.args.vars.now c.loop-number.number c.index-vars-number.result c.args.text.now.items c.loop-number.text.items _ c.loop-number-test.true c.index-vars-number.is
    c.loop-number.invariant c.in_ok-push_variable.ensures
