use Rattle.std.proofs.Common.{◌≤◌, sym, subst}
use Rattle.std.proofs.lemmas.Result.{err_from_is_err_and}
use Rattle.cone_cutter.proofs.Splitting.{is_split}
use Rattle.circuit_run.proofs.Writing.{nothing_written}
use Rattle.crew_run.proofs.Counts.{ok_map}
use Rattle.crew_run.proofs.Traces.{some_text, trace_of_run}
use Rattle.crew_run.proofs.WatchedTraces.{watched_text_of_run}
use Rattle.crew_run.proofs.running.simulate_within.Goals as goal

pub write_trace-requires-clause-split : goal.write_trace-requires-clause-split
write_trace-requires-clause-split g c κs within = is_split c.args.plan.now.ordered.now c.args.plan.now.watch.now c.args.plan.now.workers c.in_ok-cut.cut c.in_ok-cut.ensures

pub write_trace-requires-clause-some : goal.write_trace-requires-clause-some
write_trace-requires-clause-some g c κs within = subst (λ n. 1 ≤ n) (sym c.in_ok-cut.ensures.count) c.requires.some

pub write_trace-requires-clause-few : goal.write_trace-requires-clause-few
write_trace-requires-clause-few g c κs within = subst (λ n. n ≤ 64) (sym c.in_ok-cut.ensures.count) c.requires.few

pub returns-in_err-cut-clause-traced : goal.returns-in_err-cut-clause-traced
returns-in_err-cut-clause-traced g c = λ default texts design serves.
    let plan = c.args.plan.now in
    let p = err_from_is_err_and c.from_residual.result c.from_residual.ensures.1 in
    let some = some_text plan.ordered.now plan.ports.now plan.stimulus.now plan.watch.now c.requires.planned in
    rw p.1 (some.0, trace_of_run texts design plan.ordered.now plan.ports.now plan.stimulus.now plan.watch.now serves c.requires.planned default some.0 some.1, tt, (0, nothing_written (g.K.Sink.written c.args.sink.now)))

pub returns-in_err-cut-clause-shown : goal.returns-in_err-cut-clause-shown
returns-in_err-cut-clause-shown g c = λ texts design serves leaves stand.
    let plan = c.args.plan.now in
    let p = err_from_is_err_and c.from_residual.result c.from_residual.ensures.1 in
    let some = some_text plan.ordered.now plan.ports.now plan.stimulus.now plan.watch.now c.requires.planned in
    rw p.1 (
      some.0,
      watched_text_of_run texts design plan.ordered.now plan.ports.now plan.stimulus.now plan.watch.now serves c.requires.planned leaves stand some.0 some.1,
      tt,
      (0, nothing_written (g.K.Sink.written c.args.sink.now)),
    )

pub returns-in_err-cut-clause-lines : goal.returns-in_err-cut-clause-lines
returns-in_err-cut-clause-lines g c =
    let plan = c.args.plan.now in
    let p = err_from_is_err_and c.from_residual.result c.from_residual.ensures.1 in
    let some = some_text plan.ordered.now plan.ports.now plan.stimulus.now plan.watch.now c.requires.planned in
    rw p.1 (some.0, some.1, tt, (0, nothing_written (g.K.Sink.written c.args.sink.now)))

pub returns-clause-traced : goal.returns-clause-traced
returns-clause-traced g c = λ default texts design serves.
    let plan = c.args.plan.now in
    let l = c.write_trace.ensures.lines in
    (l.0, trace_of_run texts design plan.ordered.now plan.ports.now plan.stimulus.now plan.watch.now serves c.requires.planned default l.0 l.1, l.2, l.3)

pub returns-clause-shown : goal.returns-clause-shown
returns-clause-shown g c = λ texts design serves leaves stand.
    let plan = c.args.plan.now in
    let l = c.write_trace.ensures.lines in
    (l.0, watched_text_of_run texts design plan.ordered.now plan.ports.now plan.stimulus.now plan.watch.now serves c.requires.planned leaves stand l.0 l.1, l.2, l.3)

pub returns-clause-closed : goal.returns-clause-closed
returns-clause-closed g c = ok_map c.write_trace.result c.write_trace.ensures.closed (λ tables are. record { cut = c.in_ok-cut.cut; is_cut = c.in_ok-cut.ensures; epochs = are })
