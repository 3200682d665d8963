use Rattle.std.proofs.Common.{◌<◌, length, subst, get_or, take}
use Rattle.phase_core.specs.declared.model.PhaseState.{PhaseState}
use Rattle.phase_core.specs.declared.model.Step.TheVariants.{Split}
use Rattle.phase_core.specs.Steps.{stepped, or_else, begun}
use Rattle.std.proofs.Common.{◌≡◌}
use Rattle.phase_core.proofs.Runs.{run_more, run_sound, begun_sound}
use Rattle.phase_core.proofs.steps.run_steps.Goals as goal

pub loop-step-preserved : goal.loop-step-preserved
loop-step-preserved c =
    let i = c.loop-step.step-index in
    let lt : i < length c.args.steps.now = c.loop-step-test.true in
    record {
      state = run_more c.args.script.now (begun c.args.script.now) c.apply.new.state c.args.steps.now i (Split 0 0) lt
          (subst (λ (t : PhaseState). c.apply.new.state ≡ or_else (stepped c.args.script.now t (get_or c.args.steps.now i (Split 0 0))) t) c.loop-step.invariant.state c.in_ok-apply.ensures.state);
      sound = c.apply.ensures.sound;
    }

pub returns-clause-sound : goal.returns-clause-sound
returns-clause-sound c = λ n. run_sound c.args.script.now c.requires (begun c.args.script.now) (take n c.args.steps.now) (begun_sound c.args.script.now c.requires)
