use Rattle.std.proofs.Common.{arith}
use Rattle.asked_texts.specs.Commands.{Log}
use Rattle.sim_top.proofs.Judging.{no_trace, log_refused, log_taken, log_no_run}
use Rattle.sim_top.proofs.judge.log.Goals as goal

pub returns-in-Ok-clause-judges : goal.returns-in-Ok-clause-judges
returns-in-Ok-clause-judges c = λ text b.
    let takes = rw c.in-Ok.is at c.in_ok-settings.ensures.takes in
    log_taken text _ c.args.built _ b (takes text b)

pub returns-in-Ok-clause-fits : goal.returns-in-Ok-clause-fits
returns-in-Ok-clause-fits c =
    let formed = rw c.in-Ok.is at c.in_ok-settings.ensures.formed in
    (log_no_run, record { text = c.requires.0; is_built = c.requires.1; formed = formed })

pub returns-in-Err-clause-judges : goal.returns-in-Err-clause-judges
returns-in-Err-clause-judges c = λ text b.
    let status = rw c.in-Err.is at c.in_ok-settings.ensures.status in
    let refuses = rw c.in-Err.is at c.in_ok-settings.ensures.refuses in
    log_refused text _ c.args.built _ _ b status (refuses text b)

pub returns-in-Err-clause-fits : goal.returns-in-Err-clause-fits
returns-in-Err-clause-fits c =
    let status = rw c.in-Err.is at c.in_ok-settings.ensures.status in
    no_trace Log _ 3 (omega arith) status
