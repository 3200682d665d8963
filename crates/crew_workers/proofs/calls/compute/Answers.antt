use Rattle.std.proofs.Common.{◌/◌, ◌∙◌}
use Rattle.phase_core.proofs.Values.{length-values}
use Rattle.crew_workers.proofs.calls.compute.Goals as goal

pub step-requires-clause-words : goal.step-requires-clause-words
step-requires-clause-words g c = length-values g.N.Plan.script (c.args.post.now.view.passed / 2) ∙ c.requires.words
