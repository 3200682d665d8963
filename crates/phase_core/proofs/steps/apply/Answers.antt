use Rattle.std.proofs.Common.{subst, sym}
use Rattle.phase_core.specs.declared.model.Step.TheVariants.{Split, Pass, Arrive, Publish, Join}
use Rattle.phase_core.specs.Steps.{SoundState}
use Rattle.phase_core.proofs.Runs.{after_sound}
use Rattle.phase_core.proofs.steps.apply.Goals as goal

pub returns-in-Pass-clause-sound : goal.returns-in-Pass-clause-sound
returns-in-Pass-clause-sound c = subst (SoundState c.args.script.now) (sym c.pass.ensures.state) (after_sound c.args.script.now c.requires.script c.args.state.now (Pass c.in-Pass.view) c.requires.sound)

pub returns-in-Arrive-clause-sound : goal.returns-in-Arrive-clause-sound
returns-in-Arrive-clause-sound c = subst (SoundState c.args.script.now) (sym c.arrive.ensures.state) (after_sound c.args.script.now c.requires.script c.args.state.now (Arrive c.in-Arrive.view) c.requires.sound)

pub returns-in-Publish-clause-sound : goal.returns-in-Publish-clause-sound
returns-in-Publish-clause-sound c = subst (SoundState c.args.script.now) (sym c.publish.ensures.state) (after_sound c.args.script.now c.requires.script c.args.state.now (Publish c.in-Publish.view) c.requires.sound)

pub returns-in-Join-clause-sound : goal.returns-in-Join-clause-sound
returns-in-Join-clause-sound c = subst (SoundState c.args.script.now) (sym c.join.ensures.state) (after_sound c.args.script.now c.requires.script c.args.state.now (Join c.in-Join.view c.in-Join.other) c.requires.sound)

pub returns-in_ok-taken-in-Split-clause-sound : goal.returns-in_ok-taken-in-Split-clause-sound
returns-in_ok-taken-in-Split-clause-sound c = subst (SoundState c.args.script.now) (sym c.in_ok-taken-in-Split.ensures.state) (after_sound c.args.script.now c.requires.script c.args.state.now (Split c.in-Split.view c.in-Split.at) c.requires.sound)
