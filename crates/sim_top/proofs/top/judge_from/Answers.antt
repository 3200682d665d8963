use Rattle.sim_top.proofs.top.judge_from.Goals as goal

pub returns-in-Save-clause-judges : goal.returns-in-Save-clause-judges
returns-in-Save-clause-judges c = rw c.in-Save.is c.judge.ensures.judges

pub returns-in-Save-clause-fits : goal.returns-in-Save-clause-fits
returns-in-Save-clause-fits c = rw c.in-Save.is c.judge.ensures.fits

pub returns-in-Resume-clause-judges : goal.returns-in-Resume-clause-judges
returns-in-Resume-clause-judges c = rw c.in-Resume.is c.judge-in-Resume.ensures.judges

pub returns-in-Resume-clause-fits : goal.returns-in-Resume-clause-fits
returns-in-Resume-clause-fits c = rw c.in-Resume.is c.judge-in-Resume.ensures.fits
