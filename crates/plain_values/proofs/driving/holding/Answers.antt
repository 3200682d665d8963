use Rattle.std.proofs.Common.{◌≡◌, ◌∙◌, sym, ap, true}
use Rattle.prim_ops.specs.Values.{lone}
use Rattle.prim_ops.specs.Values.{is_one as is_one_value}
use Rattle.plain_values.specs.Sites.{scene_of_view}
use Rattle.plain_values.specs.Choosing.{is_taken}
use Rattle.plain_values.proofs.Statements.{there}
use Rattle.plain_values.proofs.driving.holding.Goals as goal

pub returns-then-holds-clause-first : goal.returns-then-holds-clause-first
returns-then-holds-clause-first c =
    let arm = c.index-arms-number.result in
    let taken : is_taken (scene_of_view c.args.view.now) arm ≡ true =
    ap (is_taken (scene_of_view c.args.view.now)) c.index-arms-number.is
    ∙ (sym (c.holds.ensures ∙ ap is_one_value (c.first.ensures ∙ ap lone (c.as_slice.ensures ∙ c.in_ok-condition.ensures))) ∙ c.if-holds.true) in
    (arm, there c.args.arms.now c.loop-number.number arm c.loop-number-test.true c.index-arms-number.is, taken, c.loop-number.invariant)
