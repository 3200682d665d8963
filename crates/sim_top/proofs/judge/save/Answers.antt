use Rattle.sim_top.proofs.Judging.{started, save_refused, save_unstarted, save_begun, save_no_run}
use Rattle.sim_top.proofs.judge.save.Goals as goal

pub returns-in-Ok-2-clause-judges : goal.returns-in-Ok-2-clause-judges
returns-in-Ok-2-clause-judges c = λ text b.
    let takes = rw c.in-Ok.is at c.in_ok-settings.ensures.takes in
    let start = rw c.in-Ok-2.is at c.in_ok-start-in-Ok.ensures.takes in
    save_begun _ start.0 text _ c.args.built _ _ b (takes text b) start.1 start.2

pub returns-in-Ok-2-clause-fits : goal.returns-in-Ok-2-clause-fits
returns-in-Ok-2-clause-fits c =
    let formed = rw c.in-Ok.is at c.in_ok-settings.ensures.formed in
    let start = rw c.in-Ok-2.is at c.in_ok-start-in-Ok.ensures.takes in
    (save_no_run _, record { text = c.requires.built.0; is_built = c.requires.built.1; formed = formed; is_start = started c.args.built start.0 _ start.2 })

pub returns-in-Err-2-clause-judges : goal.returns-in-Err-2-clause-judges
returns-in-Err-2-clause-judges c = λ text b.
    let takes = rw c.in-Ok.is at c.in_ok-settings.ensures.takes in
    let status = rw c.in-Err-2.is at c.in_ok-start-in-Ok.ensures.status in
    let refuses = rw c.in-Err-2.is at c.in_ok-start-in-Ok.ensures.refuses in
    save_unstarted _ text _ c.args.built _ _ _ b status (takes text b) (refuses text b)

pub returns-in-Err-clause-judges : goal.returns-in-Err-clause-judges
returns-in-Err-clause-judges c = λ text b.
    let status = rw c.in-Err.is at c.in_ok-settings.ensures.status in
    let refuses = rw c.in-Err.is at c.in_ok-settings.ensures.refuses in
    save_refused _ text _ c.args.built _ _ b status (refuses text b)
