use Rattle.std.proofs.Common.{rules}
use Rattle.width_fit.proofs.Marking.{marks_more}
use Rattle.width_fit.proofs.given.marks_of.Goals as goal

pub loop-rule-preserved : goal.loop-rule-preserved
loop-rule-preserved c =
    marks_more c.args.rules.now c.loop-rule.rule-index c.rule-item.result c.loop-rule.marks.items c.mark.new.marks.items _ (search rules) (search rules) c.loop-rule.invariant (search rules) c.in_ok-mark.ensures
