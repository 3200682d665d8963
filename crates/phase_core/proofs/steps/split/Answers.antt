use Rattle.phase_core.proofs.Runs.{split_done}
use Rattle.phase_core.proofs.steps.split.Goals as goal

pub returns-clause-state : goal.returns-clause-state
returns-clause-state c = split_done c.args.state.now c.args.index c.args.at c.in-Some.held _ _ c.in-Some.ensures.view c.if-held-ne0.false c.if-at-held.false c.if-held-at.false c.in-Some.ensures.within c.in_ok-push.ensures.ok c.set.ensures
