use Rattle.std.proofs.Common.{None, cond, get_or, ◌≡◌, subst, sym}
use Rattle.phase_core.proofs.Lists.{default_at}
use Rattle.phase_core.proofs.steps.live.Goals as goal

pub returns-in-None-clause-view : goal.returns-in-None-clause-view
returns-in-None-clause-view c = subst (λ b. None ≡ cond b None (get_or c.args.state.now.views c.args.index None)) (sym c.if-state.false)
    (default_at c.args.state.now.views c.args.index None c.in-None.ensures.value)
