use Rattle.std.proofs.Common.{rules}
use Rattle.size_check.proofs.Summing.{calls_more, got}
use Rattle.size_check.proofs.rounds.with_calls.Goals as goal

pub loop-number-preserved : goal.loop-number-preserved
loop-number-preserved c d before h e =
    calls_more c.args.names.now c.args.modules.now.all.now d c.args.calls.now c.loop-number.number c.call_at.result before c.loop-number.total c.behind_call.result c.plus-total.result
    (search rules) (got c.args.calls.now c.loop-number.number c.call_at.result c.call_at.ensures) (c.loop-number.invariant d before h e) (c.behind_call.ensures d e) c.plus-total.ensures
