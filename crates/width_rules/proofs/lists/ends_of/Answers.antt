use Rattle.std.proofs.Common.{rules, ◌∙◌}
use Rattle.width_rules.proofs.Ends.{ends_more, ends_all}
use Rattle.width_rules.proofs.lists.ends_of.Goals as goal

pub loop-own-preserved : goal.loop-own-preserved
loop-own-preserved c =
    ends_more c.args.lists.now c.loop-own.own-index c.own-item.result c.loop-own.ends.items _ c.loop-own.end c.in-Some.behind
    (search rules) (search rules) c.loop-own.invariant (search rules) (search rules)

pub returns : goal.returns
returns c = c.from_vec.ensures ∙ ends_all c.args.lists.now c.loop-own.own-index c.loop-own.ends.items c.loop-own.end (search rules) c.loop-own.invariant
