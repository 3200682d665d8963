use Rattle.std.proofs.Common.{map, ap, ◌∙◌, subst, arith}
use Rattle.fir_meaning.specs.States.{SameState, Settled, next}
use Rattle.drive_check.specs.Keys.{leaf_of_key}
use Rattle.settling_laws.specs.Runs.{row_of}
use Rattle.plain_values.specs.Sites.{valuation_of}
use Rattle.plain_cycle.specs.Given.{given_by}
use Rattle.plain_cycle.specs.Runs.{design_in, state_of}
use Rattle.plain_run.specs.Leaves.{watched_in}
use Rattle.plain_run.proofs.Leading.{none_run, run_more, all_run}
use Rattle.plain_run.proofs.running.run_for.Goals as goal

pub loop-row-init : goal.loop-row-init
loop-row-init c =
    let run = c.args.run.now in
    none_run (design_in run) (watched_in c.args.watch.now) (given_by (map leaf_of_key run.inputs.now)) c.args.rows.now c.new-outputs.result (state_of run.sites.now c.nothing_held-held.result)
    (c.nothing_held-held.ensures run.sites.now) c.new-outputs.ensures

pub loop-row-preserved : goal.loop-row-preserved
loop-row-preserved c =
    let run = c.args.run.now in
    let design = design_in run in
    let sites = run.sites.now in
    let watched = watched_in c.args.watch.now in
    let given = given_by (map leaf_of_key run.inputs.now) in
    let state = state_of sites c.loop-row.held in
    let rho = valuation_of sites c.in_ok-values.values in
    run_more design watched given c.args.rows.now c.requires.run.well.bundles c.loop-row.row-index c.row-item.result state (state_of sites c.in_ok-after.after) c.loop-row.outputs c.push.new.self c.in_ok-output.output rho (omega arith) c.row-item.is
    (subst (λ r. Settled design state (given r) rho) c.as_slice.ensures c.in_ok-values.ensures)
    (subst (λ v. SameState design (state_of sites c.in_ok-after.after) (next design state (valuation_of sites v))) c.as_slice-in-loop-row-2.ensures c.in_ok-after.ensures)
    (c.in_ok-output.ensures ∙ ap (λ v. row_of watched (valuation_of sites v)) c.as_slice-in-loop-row.ensures) c.in_ok-push.ensures.ok c.loop-row.invariant

pub returns : goal.returns
returns c =
    let run = c.args.run.now in
    all_run (design_in run) (watched_in c.args.watch.now) (given_by (map leaf_of_key run.inputs.now)) c.args.rows.now c.loop-row.row-index (state_of run.sites.now c.loop-row.held) c.loop-row.outputs (omega arith) c.loop-row.invariant
