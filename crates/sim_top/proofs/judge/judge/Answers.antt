use Rattle.asked_texts.specs.Commands.{job}
use Rattle.asked_texts.specs.Texts.{before_line}
use Rattle.sim_top.proofs.judge.judge.Goals as goal

pub returns-in_ok-judge_part-in-Some-clause-judges : goal.returns-in_ok-judge_part-in-Some-clause-judges
returns-in_ok-judge_part-in-Some-clause-judges c =
    c.in_ok-judge_part-in-Some.ensures.judges _ c.requires.within (before_line (job c.args.command) _ _ _ c.in-Some.ensures.some)
