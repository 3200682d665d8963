use Rattle.crew_run.proofs.Traces.{trace_of_run}
use Rattle.crew_run.proofs.WatchedTraces.{watched_text_of_run}
use Rattle.crew_run.proofs.running.simulate_cut.Goals as goal

pub returns-clause-traced : goal.returns-clause-traced
returns-clause-traced g c = λ default texts design serves.
    let plan = c.args.plan.now in
    let l = c.write_trace.ensures.lines in
    (l.0, trace_of_run texts design plan.ordered.now plan.ports.now plan.stimulus.now plan.watch.now serves c.requires.planned default l.0 l.1, l.2, l.3)

pub returns-clause-shown : goal.returns-clause-shown
returns-clause-shown g c = λ texts design serves leaves stand.
    let plan = c.args.plan.now in
    let l = c.write_trace.ensures.lines in
    (l.0, watched_text_of_run texts design plan.ordered.now plan.ports.now plan.stimulus.now plan.watch.now serves c.requires.planned leaves stand l.0 l.1, l.2, l.3)
