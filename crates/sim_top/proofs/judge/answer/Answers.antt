use Rattle.asked_texts.specs.Commands.{job}
use Rattle.sim_top.proofs.Judging.{no_run}
use Rattle.sim_top.proofs.judge.answer.Goals as goal

pub returns-clause-judges : goal.returns-clause-judges
returns-clause-judges c = c.in_ok-reply.ensures

pub returns-clause-fits : goal.returns-clause-fits
returns-clause-fits c = no_run (job c.args.command) _ c.requires.unrun
