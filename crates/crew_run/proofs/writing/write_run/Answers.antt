use Rattle.std.proofs.Common.{◌≡◌, ◌+◌, ◌++◌, [], map, sym, subst, ◌∙◌, ⊎_elim, true≢false, arith}
use Rattle.std.proofs.lemmas.Result.{err_from_is_err_and}
use Rattle.circuit_run.specs.NetRuns.{inputs_from}
use Rattle.circuit_run.proofs.Writing.{nothing_written}
use Rattle.register_table.specs.Shown.{closed_script}
use Rattle.crew_run.specs.Epochs.{Reaches, AreEpochsFrom}
use Rattle.crew_run.proofs.Going.{go_reaches}
use Rattle.crew_run.proofs.Progressing.{none_told, none_ends, begun_text, whole_text}
use Rattle.crew_run.proofs.Wending.{head_front, lines_front, whole_front, foot_front, at_all}
use Rattle.crew_run.proofs.writing.write_run.Goals as goal

pub returns-in_err-head-clause-text : goal.returns-in_err-head-clause-text
returns-in_err-head-clause-text g c = λ ordered watched parts s is feeds.
    let p = err_from_is_err_and c.from_residual.result c.from_residual.ensures.1 in
    let feed = c.args.course.now.feed.now in
    let t = g.T.Teller.tells c.args.course.now.teller.now in
    let begun = begun_text ordered.net watched s (g.F.Feed.given feed) t c.args.run.now.cycle ordered.sequence is.net is.order 0 (g.F.Feed.many feed) (omega arith) [] s (none_told ordered.net watched s (g.F.Feed.given feed) t c.args.run.now.cycle) in
    rw p.1 (begun.0, begun.1, tt, (0, nothing_written (g.K.Sink.written c.args.sink.now)))

pub returns-in_err-put_all-clause-text : goal.returns-in_err-put_all-clause-text
returns-in_err-put_all-clause-text g c = λ ordered watched parts s is feeds.
    let p = err_from_is_err_and c.from_residual-in_err-put_all.result c.from_residual-in_err-put_all.ensures.1 in
    let feed = c.args.course.now.feed.now in
    let t = g.T.Teller.tells c.args.course.now.teller.now in
    let begun = begun_text ordered.net watched s (g.F.Feed.given feed) t c.args.run.now.cycle ordered.sequence is.net is.order 0 (g.F.Feed.many feed) (omega arith) [] s (none_told ordered.net watched s (g.F.Feed.given feed) t c.args.run.now.cycle) in
    let head_is = c.as_slice.ensures.value ∙ c.in_ok-head.ensures in
    let a = head_front (g.K.Sink.written c.args.sink.now) (g.K.Sink.written c.put_all.new.sink) c.as_slice.result.now t.head [] begun.2 begun.0 head_is begun.3 c.in_err-put_all.ensures.prefix in
    rw p.1 (begun.0, begun.1, tt, a)

pub returns-in_err-ending-clause-text : goal.returns-in_err-ending-clause-text
returns-in_err-ending-clause-text g c = λ ordered watched parts s is feeds.
    let p = err_from_is_err_and c.from_residual-in_err-ending.result c.from_residual-in_err-ending.ensures.1 in
    let feed = c.args.course.now.feed.now in
    let t = g.T.Teller.tells c.args.course.now.teller.now in
    let w = c.in_err-ending.ensures.front ordered watched parts s is feeds in
    let begun = begun_text ordered.net watched s (g.F.Feed.given feed) t c.args.run.now.cycle ordered.sequence is.net is.order w.0 (g.F.Feed.many feed) w.3 w.1 w.2 w.4 in
    let head_is = c.as_slice.ensures.value ∙ c.in_ok-head.ensures in
    let a = lines_front (g.K.Sink.written c.args.sink.now) (g.K.Sink.written c.put_all.new.sink) (g.K.Sink.written c.write_epochs.new.sink) c.as_slice.result.now t.head w.1 begun.2 begun.0 head_is begun.3 c.in_ok-put_all.ensures.all (w.5, w.6) in
    rw p.1 (begun.0, begun.1, tt, a)

pub returns-in_err-foot-clause-text : goal.returns-in_err-foot-clause-text
returns-in_err-foot-clause-text g c = λ ordered watched parts s is feeds.
    let p = err_from_is_err_and c.from_residual-in_err-foot.result c.from_residual-in_err-foot.ensures.1 in
    let feed = c.args.course.now.feed.now in
    let t = g.T.Teller.tells c.args.course.now.teller.now in
    let w = c.in_ok-ending.ensures.went ordered watched parts s is feeds in
    let begun = begun_text ordered.net watched s (g.F.Feed.given feed) t c.args.run.now.cycle ordered.sequence is.net is.order w.0 (g.F.Feed.many feed) w.2 w.1 w.4.state w.4.told in
    let head_is = c.as_slice.ensures.value ∙ c.in_ok-head.ensures in
    let a = whole_front (g.K.Sink.written c.args.sink.now) (g.K.Sink.written c.put_all.new.sink) (g.K.Sink.written c.write_epochs.new.sink) c.as_slice.result.now t.head w.1 begun.2 begun.0 head_is begun.3 c.in_ok-put_all.ensures.all w.5 in
    rw p.1 (begun.0, begun.1, tt, a)

pub returns-in_err-put_all-2-clause-text : goal.returns-in_err-put_all-2-clause-text
returns-in_err-put_all-2-clause-text g c = λ ordered watched parts s is feeds.
    let p = err_from_is_err_and c.from_residual-in_err-put_all-2.result c.from_residual-in_err-put_all-2.ensures.1 in
    let feed = c.args.course.now.feed.now in
    let t = g.T.Teller.tells c.args.course.now.teller.now in
    let w = c.in_ok-ending.ensures.went ordered watched parts s is feeds in
    let spot = c.in_ok-ending.ending.spot in
    let whole = whole_text ordered.net watched s (g.F.Feed.given feed) t c.args.run.now.cycle ordered.sequence is.net is.order w.0 (g.F.Feed.many feed) w.2 w.1 w.4.state w.4.told spot c.in_ok-ending.ending.ended w.4.stands w.3 in
    let head_is = c.as_slice.ensures.value ∙ c.in_ok-head.ensures in
    let foot_is = c.as_slice-2.ensures.value ∙ c.in_ok-foot.ensures in
    let a = foot_front (g.K.Sink.written c.args.sink.now) (g.K.Sink.written c.put_all.new.sink) (g.K.Sink.written c.write_epochs.new.sink) (g.K.Sink.written c.put_all-2.new.sink) c.as_slice.result.now t.head w.1 c.as_slice-2.result.now (t.foot spot.cycle spot.before spot.byte) head_is foot_is c.in_ok-put_all.ensures.all w.5 c.in_err-put_all-2.ensures.prefix in
    rw p.1 (t.head ++ (w.1 ++ t.foot spot.cycle spot.before spot.byte), whole, tt, a)

pub returns-clause-text : goal.returns-clause-text
returns-clause-text g c = λ ordered watched parts s is feeds.
    let feed = c.args.course.now.feed.now in
    let t = g.T.Teller.tells c.args.course.now.teller.now in
    let w = c.in_ok-ending.ensures.went ordered watched parts s is feeds in
    let spot = c.in_ok-ending.ending.spot in
    let whole = whole_text ordered.net watched s (g.F.Feed.given feed) t c.args.run.now.cycle ordered.sequence is.net is.order w.0 (g.F.Feed.many feed) w.2 w.1 w.4.state w.4.told spot c.in_ok-ending.ending.ended w.4.stands w.3 in
    let head_is = c.as_slice.ensures.value ∙ c.in_ok-head.ensures in
    let foot_is = c.as_slice-2.ensures.value ∙ c.in_ok-foot.ensures in
    let a = at_all (g.K.Sink.written c.args.sink.now) (g.K.Sink.written c.put_all.new.sink) (g.K.Sink.written c.write_epochs.new.sink) (g.K.Sink.written c.put_all-2.new.sink) c.as_slice.result.now t.head w.1 c.as_slice-2.result.now (t.foot spot.cycle spot.before spot.byte) head_is foot_is c.in_ok-put_all.ensures.all w.5 c.in_ok-put_all-2.ensures.all in
    (t.head ++ (w.1 ++ t.foot spot.cycle spot.before spot.byte), whole, a, tt)

pub returns-clause-behind : goal.returns-clause-behind
returns-clause-behind g c = λ ordered watched parts s is feeds never.
    let feed = c.args.course.now.feed.now in
    let t = g.T.Teller.tells c.args.course.now.teller.now in
    let w = c.in_ok-ending.ensures.went ordered watched parts s is feeds in
    let all = ⊎_elim (λ e. e) (λ e. absurd (true≢false (sym e ∙ (w.4.stands.at_end ∙ none_ends t.ends never w.4.told.rows)))) w.3 in (
      w.4.state,
      subst (λ n. Reaches ordered.net s (inputs_from (g.F.Feed.given feed) 0 n) w.4.state) all (go_reaches ordered.net watched s w.4.state (inputs_from (g.F.Feed.given feed) 0 w.0) w.4.told.advances),
      w.4.is_run,
      subst (λ n. c.write_epochs.new.run.cycle ≡ c.args.run.now.cycle + n) all w.4.cycle,
    )

pub returns-clause-closed : goal.returns-clause-closed
returns-clause-closed g c = λ ordered watched parts s is feeds never.
    let feed = c.args.course.now.feed.now in
    let t = g.T.Teller.tells c.args.course.now.teller.now in
    let w = c.in_ok-ending.ensures.went ordered watched parts s is feeds in
    let all = ⊎_elim (λ e. e) (λ e. absurd (true≢false (sym e ∙ (w.4.stands.at_end ∙ none_ends t.ends never w.4.told.rows)))) w.3 in
    subst (AreEpochsFrom ordered.net watched s (g.F.Feed.given feed) parts 0 (map closed_script c.in_ok-ending.ending.tables)) all w.4.epochs
