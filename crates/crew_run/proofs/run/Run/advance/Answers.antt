use Rattle.std.proofs.Common.{sym, subst}
use Rattle.crew_run.specs.Epochs.{IsScriptFrom}
use Rattle.crew_run.proofs.Runs.{one_cut, may_run}
use Rattle.crew_run.proofs.States.{all_rows}
use Rattle.crew_run.proofs.Epochs.{is_script}
use Rattle.crew_run.proofs.run.Run.advance.Goals as goal

pub run_epoch_within-requires-clause-runs : goal.run_epoch_within-requires-clause-runs
run_epoch_within-requires-clause-runs g c κs within =
    let r = c.requires.run in
    let m = c.requires.matched in
    may_run r.0 r.1 r.2 r.3 c.args.self.now r.4 m.0 c.args.rows.now m.1 c.requires.fits

pub returns-clause-rows : goal.returns-clause-rows
returns-clause-rows g c = λ ordered watched parts t given is matched.
    let run = c.args.self.now in
    let epoch = c.in_ok-epoch.epoch in
    let all = all_rows run.codes (one_cut ordered watched parts t run is) given c.args.rows.now matched run.words t is.at epoch.outputs epoch.words c.in_ok-epoch.ensures.outputs c.in_ok-epoch.ensures.words in
    (all.0, all.1, record { of = is.of; net = is.net; order = is.order; split = is.split; some = is.some; few = is.few; codes_of = is.codes_of; at = all.2 })

pub returns-clause-closed : goal.returns-clause-closed
returns-clause-closed g c = λ ordered watched parts t given is matched.
    let run = c.args.self.now in
    let epoch = c.in_ok-epoch.epoch in
    subst (IsScriptFrom ordered.net watched t given parts 0) (sym c.in_ok-epoch.ensures.closed)
    (is_script run.codes (one_cut ordered watched parts t run is) given c.args.rows.now matched run.words t is.at epoch.outputs c.in_ok-epoch.ensures.outputs)
