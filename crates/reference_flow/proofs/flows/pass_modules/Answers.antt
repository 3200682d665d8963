use Rattle.std.proofs.Common.{sym, ◌∙◌}
use Rattle.reference_flow.proofs.Passing.{one_more, broken_here}
use Rattle.reference_flow.proofs.flows.pass_modules.Goals as goal

pub returns-in_err-left : goal.returns-in_err-left
returns-in_err-left c =
    c.from_residual.ensures
    ∙ sym (broken_here _ c.args.modules.now c.loop-holder.holder-index c.holder-item.result c.args.left c.loop-holder.left _ c.loop-holder-test.true c.holder-item.is c.loop-holder.invariant
    (sym (rw c.as_slice.ensures at c.in_err-left.ensures)))

pub loop-holder-preserved : goal.loop-holder-preserved
loop-holder-preserved c =
    one_more _ c.args.modules.now c.loop-holder.holder-index c.holder-item.result c.args.left c.loop-holder.left _ c.loop-holder-test.true c.holder-item.is c.loop-holder.invariant
    (sym (rw c.as_slice.ensures at c.in_ok-left.ensures))
