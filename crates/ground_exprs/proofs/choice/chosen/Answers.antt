use Rattle.std.proofs.Common.{◌≡◌, [], ◌∷◌, arith}
use Rattle.std.proofs.lemmas.Grind.{common_steps}
use Rattle.std.specs.Vec.Iter.{into_iter_items}
use Rattle.ground_exprs.proofs.Choosing.{chosen_more, chosen_end, chosen_short}
use Rattle.ground_exprs.proofs.choice.chosen.Goals as goal

pub loop-source-preserved : goal.loop-source-preserved
loop-source-preserved c = λ rest h.
    let i : into_iter_items c.loop-source.source-iterator ≡ c.in-Some.source ∷ into_iter_items c.next.new.self = c.in-Some.ensures.steps.0 in
    let o : into_iter_items c.loop-source.others ≡ c.in-Some-next.other ∷ into_iter_items c.next-in-loop-source.new.self = c.in-Some-next.ensures.cases.0 in
    chosen_more c.args.condition.expr c.args.first c.args.second _ _ _ _ c.loop-source.sources c.push.new.self rest c.in-Some.source c.in-Some-next.other c.in_ok-one_of_two.field-0
    c.loop-source.invariant i o c.in_ok-one_of_two.ensures c.in_ok-push.ensures.ok h

pub returns-in_default : goal.returns-in_default
returns-in_default c =
    let o : into_iter_items c.loop-source.others ≡ [] = grind (arith, common_steps) in
    chosen_short c.args.condition.expr c.args.first c.args.second _ _ _ c.loop-source.sources c.in-Some.source c.loop-source.invariant c.in-Some.ensures.steps.0 o

pub returns : goal.returns
returns c =
    let i : into_iter_items c.loop-source.source-iterator ≡ [] = grind (arith, common_steps) in
    chosen_end c.args.condition.expr c.args.first c.args.second _ _ c.loop-source.sources c.loop-source.invariant i
