use Rattle.std.proofs.Common.{◌≡◌, Bool, true, false, sym, ◌∙◌}
use Rattle.std.specs.Prelude.{MatchBool}
use Rattle.ground_net.specs.Reads.{IsAssigned}
use Rattle.comb_order.specs.Spreads.{is_assignment}
use Rattle.comb_order.proofs.Telling.{assigned_is, is_assigned_test}
use Rattle.comb_order.proofs.ordering.is_assigned.Goals as goal

pub returns : goal.returns
returns c = by c.is_assignment.result c.is_assignment.ensures
  where
    differ : true ≡ false → ⊥
    differ e = cc

    by : (b : Bool) → b ≡ is_assignment c.args.leaves.now c.args.number → MatchBool b (IsAssigned c.args.leaves.now c.args.number) (IsAssigned c.args.leaves.now c.args.number → ⊥)
    by true e = assigned_is c.args.leaves.now c.args.number (sym e)
    by false e = λ a. differ (sym (is_assigned_test c.args.leaves.now c.args.number a) ∙ sym e)
