use Rattle.std.proofs.Common.{◌∙◌, arith}
use Rattle.settling_laws.specs.Sweeps.{asked}
use Rattle.fir_types.specs.Leaves.{leaves}
use Rattle.plain_cycle.specs.Runs.{design_in, state_at, given_at, values_at}
use Rattle.plain_cycle.proofs.Sweeps.{leaf_more, all_leaves}
use Rattle.plain_cycle.proofs.Views.{leaves_are}
use Rattle.plain_cycle.proofs.sweeping.swept.Goals as goal

pub loop-leaf-preserved : goal.loop-leaf-preserved
loop-leaf-preserved c = λ x is.
    let run = c.args.run.now in
    let moment = c.args.moment.now in
    leaf_more (asked (design_in run) (state_at run moment) (given_at run moment) (values_at run moment) x.path (x.m, x.c)) c.as_slice-leaf-items.result.now c.loop-leaf.leaf-index c.leaf-item.result c.loop-leaf.values
    c.push.new.self c.in_ok-asked.field-0 (omega arith) c.leaf-item.is c.in_ok-push.ensures.ok (c.in_ok-asked.ensures x is) (c.loop-leaf.invariant x is)

pub returns : goal.returns
returns c = λ x is.
    let run = c.args.run.now in
    let moment = c.args.moment.now in
    all_leaves (asked (design_in run) (state_at run moment) (given_at run moment) (values_at run moment) x.path (x.m, x.c)) c.as_slice-leaf-items.result.now (leaves x.c.typ) c.loop-leaf.leaf-index c.loop-leaf.values (omega arith)
    (c.as_slice-leaf-items.ensures ∙ leaves_are (design_in run) x c.args.part.now is) (c.loop-leaf.invariant x is)
