use Rattle.std.proofs.Common.{◌<◌}
use Rattle.std.proofs.lemmas.List.Elements.{All-push}
use Rattle.width_solver.proofs.Standing.{all_below}
use Rattle.width_solver.proofs.solving.numbers_below.Goals as goal

pub loop-number-preserved : goal.loop-number-preserved
loop-number-preserved c = record {
  within = rw c.in_ok-push.ensures.items (All-push (λ k. k < c.args.end) _ _ c.loop-number.invariant.within c.loop-number-test.true);
  all = rw c.in_ok-push.ensures.items (all_below _ _ c.loop-number.invariant.all);
}
