use Rattle.std.proofs.Common.{◌∙◌}
use Rattle.sim_top.proofs.Replying.{made_gives}
use Rattle.sim_top.proofs.top.judge_made.Goals as goal

pub returns-clause-judges : goal.returns-clause-judges
returns-clause-judges c = made_gives c.args.cycles c.args.size _ _ (c.deref.ensures.value ∙ c.in_ok-text.ensures.text) c.in_ok-judge.ensures.judges
