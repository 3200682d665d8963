use Rattle.sim_engine.proofs.Solving.{fit_from, unfit_from}
use Rattle.sim_engine.proofs.fitting.fit_widths.Goals as goal

pub returns-clause-ok : goal.returns-clause-ok
returns-clause-ok c =
    fit_from c.args.checked c.in_ok-rules.rules c.in_ok-widths.widths c.judge.result c.in_ok-rules.ensures.exact c.in_ok-widths.ensures c.judge.ensures

pub returns-clause-fault : goal.returns-clause-fault
returns-clause-fault c =
    unfit_from c.args.checked c.in_ok-rules.rules c.in_ok-widths.widths c.judge.result c.in_ok-rules.ensures.exact c.in_ok-widths.ensures c.judge.ensures
