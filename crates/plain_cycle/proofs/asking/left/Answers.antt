use Rattle.std.proofs.Common.{ap, ◌∙◌}
use Rattle.std.proofs.lemmas.Result.{IfOk-weaker}
use Rattle.settling_laws.specs.Sweeps.{left_in_block}
use Rattle.plain_cycle.specs.Runs.{design_in, values_at}
use Rattle.plain_cycle.proofs.Views.{key_is}
use Rattle.plain_cycle.proofs.asking.left.Goals as goal

pub returns : goal.returns
returns c =
    let run = c.args.run.now in
    IfOk-weaker c.left_at.result _ _
    (λ v h x is. h x is ∙ ap (λ leaf. left_in_block (values_at run c.args.moment.now) x.path leaf (x.m, x.c)) (key_is (design_in run) x c.args.part.now is c.in_ok-key.key c.args.leaf.now c.in_ok-key.ensures.component (c.in_ok-key.ensures.way ∙ c.as_slice.ensures)))
    c.left_at.ensures
