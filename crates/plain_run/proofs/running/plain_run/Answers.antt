use Rattle.std.proofs.Common.{List, map, sym, ap, ◌∙◌, subst}
use Rattle.std.proofs.lemmas.Result.{IfOk-weaker}
use Rattle.bit_words.specs.declared.value.Value.{Value}
use Rattle.fir_meaning.specs.Components.{design_of}
use Rattle.fir_meaning.specs.States.{first_state}
use Rattle.drive_check.specs.Keys.{leaf_of_key}
use Rattle.settling_laws.specs.Runs.{Runs}
use Rattle.plain_cycle.specs.Layouts.{IsLayout}
use Rattle.plain_cycle.specs.Given.{given_by, inputs_in}
use Rattle.plain_run.specs.Leaves.{leaves_of_sites, run_leaves, watched_by}
use Rattle.plain_run.proofs.Leading.{run_of}
use Rattle.plain_run.proofs.Once.{one_flat_order}
use Rattle.plain_run.proofs.Tracing.{runs_trace}
use Rattle.plain_run.proofs.running.plain_run.Goals as goal

pub run_for-requires-clause-run : goal.run_for-requires-clause-run
run_for-requires-clause-run c =
    let design = design_of c.args.fitted.now in
    record {
      well = c.requires.well;
      layout = subst (λ ds. IsLayout design c.as_slice-2.result.now ds) (sym c.as_slice-3.ensures.value) (subst (λ ss. IsLayout design ss c.in_ok-layout.layout.declared.items) (sym c.as_slice-2.ensures) c.in_ok-layout.ensures);
    }

pub returns-clause-run : goal.returns-clause-run
returns-clause-run c =
    let design = design_of c.args.fitted.now in
    let its = c.in_ok-sites.ensures in
    IfOk-weaker c.run_for.result _ _
    (λ outputs h. record {
      placed = its.placed;
      order = its.order;
      run = run_of design (map leaf_of_key c.as_slice-4.result.now) (inputs_in design) (leaves_of_sites c.as_slice.result.now) (run_leaves its.placed) c.args.watch.now c.as_slice-5.result.now c.args.rows.now outputs
          (ap (map leaf_of_key) c.as_slice-4.ensures ∙ c.in_ok-inputs.ensures) (ap leaves_of_sites c.as_slice.ensures.value ∙ its.leaves) c.as_slice-5.ensures h;
    })
    c.run_for.ensures

pub returns-clause-traced : goal.returns-clause-traced
returns-clause-traced c =
    let fitted = c.args.fitted.now in
    let design = design_of fitted in
    let its = c.in_ok-sites.ensures in
    let inputs = map (given_by (inputs_in design)) c.args.rows.now in
    IfOk-weaker c.run_for.result _ _
    (λ (outputs : List (List Value)) h. record {
      trace = λ watches.
          let one = one_flat_order c.flat_orders_are_one.ensures design its.placed watches.placed its.order watches.order in
          runs_trace fitted c.requires.well first_state inputs
          (subst (λ ws. Runs design ws first_state inputs outputs) (ap (λ l. watched_by l c.args.watch.now) one ∙ watches.same)
          (run_of design (map leaf_of_key c.as_slice-4.result.now) (inputs_in design) (leaves_of_sites c.as_slice.result.now) (run_leaves its.placed) c.args.watch.now c.as_slice-5.result.now c.args.rows.now outputs
          (ap (map leaf_of_key) c.as_slice-4.ensures ∙ c.in_ok-inputs.ensures) (ap leaves_of_sites c.as_slice.ensures.value ∙ its.leaves) c.as_slice-5.ensures h));
    })
    c.run_for.ensures
