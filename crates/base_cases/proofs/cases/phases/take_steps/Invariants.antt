use Rattle.phase_core.specs.Steps.{SoundState}
use Rattle.base_cases.proofs.cases.phases.take_steps.Given as goal

abbrev pub invariant-loop-step : goal.invariant-loop-step
invariant-loop-step g l = SoundState l.script l.state
