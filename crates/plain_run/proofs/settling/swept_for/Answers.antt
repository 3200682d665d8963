use Rattle.std.proofs.Common.{◌+◌, map, ap, ◌∙◌, arith}
use Rattle.drive_check.specs.Keys.{leaf_of_key}
use Rattle.plain_values.specs.Sites.{valuation_of}
use Rattle.settling_laws.specs.Sweeps.{sweep, swept}
use Rattle.plain_cycle.specs.Given.{given_by}
use Rattle.plain_cycle.specs.Runs.{design_in, state_of}
use Rattle.plain_run.proofs.Counts.{once_more}
use Rattle.plain_run.proofs.settling.swept_for.Goals as goal

pub loop-leaf-init : goal.loop-leaf-init
loop-leaf-init c = λ n before.
    let run = c.args.run.now in
    before ∙ ap (swept (design_in run) (state_of run.sites.now c.args.cycle.0.now) (given_by (map leaf_of_key run.inputs.now) c.args.cycle.1.now)) (omega arith)

pub loop-leaf-preserved : goal.loop-leaf-preserved
loop-leaf-preserved c = λ n before.
    let run = c.args.run.now in
    let state = state_of run.sites.now c.args.cycle.0.now in
    let given = given_by (map leaf_of_key run.inputs.now) c.args.cycle.1.now in
    once_more (design_in run) state given (valuation_of run.sites.now c.loop-leaf.values) (valuation_of run.sites.now c.in_ok-after.after) n c.loop-leaf._leaf-index
    (c.in_ok-after.ensures ∙ ap (λ values. sweep (design_in run) state given (valuation_of run.sites.now values)) c.as_slice.ensures) (c.loop-leaf.invariant n before)

pub returns : goal.returns
returns c = λ n before.
    let run = c.args.run.now in
    c.loop-leaf.invariant n before ∙ ap (λ k. swept (design_in run) (state_of run.sites.now c.args.cycle.0.now) (given_by (map leaf_of_key run.inputs.now) c.args.cycle.1.now) (n + k)) (omega arith)
