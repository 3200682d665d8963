use Rattle.std.proofs.Common.{rules, arith}
use Rattle.std.proofs.lemmas.Grind.{common_steps}
use Rattle.type_check.proofs.Reaching.{second_chosen}
use Rattle.type_check.proofs.whole.first_chosen.Goals as goal

pub loop-inside-preserved : goal.loop-inside-preserved
loop-inside-preserved c = λ known typ h. c.loop-inside.invariant known typ
    (second_chosen known c.loop-inside.inside.now c.in-Mux.operands c.first-item.result typ c.in-Mux.is (grind (arith, common_steps)) (search rules) h)
