use Rattle.std.proofs.Common.{◌<◌, ℕ, List, length, subst, sym}
use Rattle.std.proofs.lemmas.Result.{err_from_is_err_and}
use Rattle.fir_meaning.specs.Components.{design_of}
use Rattle.circuit_run.proofs.Writing.{nothing_written}
use Rattle.crew_run.proofs.Traces.{some_text, trace_of_run}
use Rattle.ground_net.specs.Cones.{sinks}
use Rattle.sim_top.proofs.Small.{few, few_sinks}
use Rattle.sim_top.proofs.Replying.{planned}
use Rattle.sim_top.proofs.top.run_refined.Goals as goal

pub refined_cut-requires-clause-few : goal.refined_cut-requires-clause-few
refined_cut-requires-clause-few g c = let r = c.requires.runnable in few c.accepted_nets_are_small.ensures.leaves r.text c.args.errand.now.built.now r.is_built

pub refined_cut-requires-clause-few_sinks : goal.refined_cut-requires-clause-few_sinks
refined_cut-requires-clause-few_sinks g c =
    let r = c.requires.runnable in
    let built = c.args.errand.now.built.now in
    subst (λ (w : List ℕ). length (sinks built.ordered.net w) < 4294967296) (sym r.are_watched) (few_sinks c.accepted_nets_are_small.ensures.watched c.accepted_nets_are_small.ensures.sinks r.text built r.is_built)

pub simulate_cut-requires-clause-said : goal.simulate_cut-requires-clause-said
simulate_cut-requires-clause-said g c κs within = c.requires.runnable.is_built.ordered.serves.of.is.words

pub simulate_cut-requires-clause-planned : goal.simulate_cut-requires-clause-planned
simulate_cut-requires-clause-planned g c κs within = planned _ _ _ c.requires.runnable

pub simulate_cut-requires-clause-watched : goal.simulate_cut-requires-clause-watched
simulate_cut-requires-clause-watched g c κs within = c.requires.runnable.are_leaves

pub returns-clause-traced : goal.returns-clause-traced
returns-clause-traced g c = c.simulate_cut.ensures.traced c.requires.runnable.are_watched _ _ c.requires.runnable.is_built.ordered.serves

pub returns-in_err-cut-clause-traced : goal.returns-in_err-cut-clause-traced
returns-in_err-cut-clause-traced g c =
    let built = c.args.errand.now.built.now in
    let stimulus = c.args.errand.now.stimulus.now in
    let watched = c.args.errand.now.watch.now in
    let r = c.requires.runnable in
    let plan = planned built stimulus watched r in
    let p = err_from_is_err_and c.from_residual.result c.from_residual.ensures.1 in
    let some = some_text built.ordered built.ports stimulus watched plan in
    rw p.1 (
      some.0,
      trace_of_run built.fitted.checked.resolved.names (design_of built.fitted) built.ordered built.ports stimulus watched r.is_built.ordered.serves plan r.are_watched some.0 some.1,
      tt,
      (0, nothing_written (g.K.Sink.written c.args.sink.now)),
    )
