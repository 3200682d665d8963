use Rattle.std.proofs.Common.{◌∙◌, ◌++◌, ap, sym}
use Rattle.fir_types.specs.declared.leaf.PathStep.TheVariants as step
use Rattle.fir_meaning.specs.Mentions.{behind_each}
use Rattle.clock_check.specs.Driving.{ways_of}
use Rattle.clock_check.proofs.Reaching.{elements_more}
use Rattle.clock_check.proofs.reach.elements.Goals as goal

pub loop-number-preserved : goal.loop-number-preserved
loop-number-preserved c =
    c.in_ok-push_behind.ensures ∙ ap (λ l. l ++ behind_each (ways_of c.args.ways.now) (step.Element c.loop-number.number)) c.loop-number.invariant
    ∙ sym (elements_more (ways_of c.args.ways.now) c.loop-number.number)
