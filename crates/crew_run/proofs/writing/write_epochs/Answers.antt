use Rattle.std.proofs.Common.{◌≡◌, ◌⊎◌, inl, inr, ◌+◌, ◌≤◌, true, false, [], ◌++◌, length, take, refl, sym, subst, ap, ◌∙◌, arith}
use Rattle.std.specs.Prelude.{All}
use Rattle.std.proofs.lemmas.Grind.{common_steps}
use Rattle.std.proofs.lemmas.Result.{err_from_is_err_and}
use Rattle.shelf_io.specs.Outside.{Appends}
use Rattle.shelf_io.proofs.Written.{Appends-trans}
use Rattle.circuit_run.specs.NetRuns.{inputs_from}
use Rattle.circuit_run.proofs.Writing.{nothing_written}
use Rattle.std.specs.List.{list_any}
use Rattle.row_texts.specs.Tellings.{last_from, told_of, rows_text}
use Rattle.crew_run.proofs.Counts.{told_few}
use Rattle.crew_run.proofs.Going.{go_read}
use Rattle.crew_run.proofs.Wending.{went_none, progress_next, went_next, all_of, front_next}
use Rattle.crew_run.proofs.writing.write_epochs.Goals.{then-loop-first-test+else-not-ended, else-loop-first-test}
use Rattle.crew_run.proofs.writing.write_epochs.Goals as goal

pub loop-first-init : goal.loop-first-init
loop-first-init g c = record {
  within = omega arith;
  went = λ ordered watched parts s is feeds. (
    [],
    went_none ordered watched parts s (g.F.Feed.given c.args.course.now.feed.now) (g.T.Teller.tells c.args.course.now.teller.now) c.args.run.now.cycle c.args.run.now c.new-tables.result _ false is refl c.new-tables.ensures c.cycle.ensures refl refl refl,
    nothing_written (g.K.Sink.written c.args.sink.now),
  );
  read = tt;
  cycle = omega arith;
  number = omega (arith, c.cycle.ensures);
  spared = refl;
}

pub run_cycles-requires-clause-asks : goal.run_cycles-requires-clause-asks
run_cycles-requires-clause-asks g c κs within =
    let asks = c.requires.asks in
    let w = c.loop-first.invariant.went asks.0 asks.1 asks.2 asks.3 asks.4 asks.5 in
    (asks.0, asks.1, asks.2, w.1.state, w.1.is_run, asks.5)

pub tell_rows-requires-clause-reads : goal.tell_rows-requires-clause-reads
tell_rows-requires-clause-reads g c =
    let asks = c.requires.asks in
    let w = c.loop-first.invariant.went asks.0 asks.1 asks.2 asks.3 asks.4 asks.5 in
    let u = c.in_ok-told.ensures.rows asks.0 asks.1 asks.2 w.1.state w.1.is_run asks.5 in
    let reads = g.T.Teller.reads c.args.course.now.teller.now in
    subst (All reads) (sym c.as_slice.ensures) (go_read asks.0.net asks.1 reads asks.6 w.1.state u.0 (inputs_from (g.F.Feed.given c.args.course.now.feed.now) c.loop-first.first c.min-count.result) u.1)

pub returns-in_err-told-clause-front : goal.returns-in_err-told-clause-front
returns-in_err-told-clause-front g c = λ ordered watched parts s is feeds.
    let p = err_from_is_err_and c.from_residual.result c.from_residual.ensures.1 in
    let w = c.loop-first.invariant.went ordered watched parts s is feeds in
    let a = all_of (g.K.Sink.written c.args.sink.now) (g.K.Sink.written c.loop-first.sink) w.0 w.2 in
    rw p.1 (c.loop-first.first, w.0, w.1.state, c.loop-first.invariant.within, w.1.told, a.0, a.1)

pub returns-in_err-push-clause-front : goal.returns-in_err-push-clause-front
returns-in_err-push-clause-front g c = λ ordered watched parts s is feeds.
    let p = err_from_is_err_and c.from_residual-in_err-push.result c.from_residual-in_err-push.ensures.1 in
    let w = c.loop-first.invariant.went ordered watched parts s is feeds in
    let a = all_of (g.K.Sink.written c.args.sink.now) (g.K.Sink.written c.loop-first.sink) w.0 w.2 in
    rw p.1 (c.loop-first.first, w.0, w.1.state, c.loop-first.invariant.within, w.1.told, a.0, a.1)

pub returns-in_err-lines-clause-front : goal.returns-in_err-lines-clause-front
returns-in_err-lines-clause-front g c = λ ordered watched parts s is feeds.
    let p = err_from_is_err_and c.from_residual-in_err-lines.result c.from_residual-in_err-lines.ensures.1 in
    let w = c.loop-first.invariant.went ordered watched parts s is feeds in
    let a = all_of (g.K.Sink.written c.args.sink.now) (g.K.Sink.written c.loop-first.sink) w.0 w.2 in
    rw p.1 (c.loop-first.first, w.0, w.1.state, c.loop-first.invariant.within, w.1.told, a.0, a.1)

pub returns-in_err-put_all-clause-front : goal.returns-in_err-put_all-clause-front
returns-in_err-put_all-clause-front g c = λ ordered watched parts s is feeds.
    let p = err_from_is_err_and c.from_residual-in_err-put_all.result c.from_residual-in_err-put_all.ensures.1 in
    let w = c.loop-first.invariant.went ordered watched parts s is feeds in
    let t = g.T.Teller.tells c.args.course.now.teller.now in
    let on : c.loop-first.ended ≡ false = grind (arith, common_steps, c.if-not-ended.true) in
    let u = c.in_ok-told.ensures.rows ordered watched parts w.1.state w.1.is_run feeds in
    let first = c.loop-first.first in
    let count = c.min-count.result in
    let within : first + count ≤ g.F.Feed.many c.args.course.now.feed.now = grind (arith, common_steps, c.min-count.ensures, c.loop-first-test.true, c.cycles-cycles.ensures) in
    let bytes = c.in_ok-lines.lines.bytes.items in
    let text = c.in_ok-lines.ensures.text ∙ ap (λ l. rows_text t c.loop-first.spot.cycle c.loop-first.spot.before (told_of t.ends l)) c.as_slice.ensures in
    let progress = progress_next ordered watched parts s (g.F.Feed.given c.args.course.now.feed.now) t c.args.run.now.cycle first count c.loop-first.run c.run_cycles.new.run c.loop-first.tables w.0 bytes c.loop-first.spot c.loop-first.ended w.1 on c.in_ok-told.told.0 u.0 u.1 text in
    let front = c.in_err-put_all.ensures.prefix in
    let put = subst (λ l. Appends (g.K.Sink.written c.loop-first.sink) (g.K.Sink.written c.put_all.new.sink) (take front.0 l)) c.as_slice-in-loop-first.ensures.value front.1 in
    let a = front_next (g.K.Sink.written c.args.sink.now) (g.K.Sink.written c.put_all.new.sink) w.0 (g.K.Sink.written c.loop-first.sink) bytes front.0 w.2 put in
    rw p.1 (first + count, w.0 ++ bytes, u.0, within, progress, a.0, a.1)

pub loop-first-preserved : goal.loop-first-preserved
loop-first-preserved g c =
    let t = g.T.Teller.tells c.args.course.now.teller.now in
    let first = c.loop-first.first in
    let count = c.min-count.result in
    let lines = c.in_ok-lines.lines in
    let on : c.loop-first.ended ≡ false = grind (arith, common_steps, c.if-not-ended.true) in
    let within : first + count ≤ g.F.Feed.many c.args.course.now.feed.now = grind (arith, common_steps, c.min-count.ensures, c.loop-first-test.true, c.cycles-cycles.ensures) in
    let most = c.requires.few in
    let some = c.requires.some in
    let least : 1 ≤ count = grind (arith, common_steps, c.min-count.ensures, c.loop-first-test.true, some) in
    let few : count ≤ 1024 = grind (arith, common_steps, c.min-count.ensures, most) in
    let rows_is = c.as_slice.ensures in
    let told = c.in_ok-told.told.0 in
    let text = c.in_ok-lines.ensures.text ∙ ap (λ l. rows_text t c.loop-first.spot.cycle c.loop-first.spot.before (told_of t.ends l)) rows_is in
    let at_cycle = c.in_ok-lines.ensures.cycle ∙ ap (λ l. c.loop-first.spot.cycle + length (told_of t.ends l)) rows_is in
    let at_before = c.in_ok-lines.ensures.before ∙ ap (λ l. last_from c.loop-first.spot.before (told_of t.ends l)) rows_is in
    let any = c.in_ok-lines.ensures.ended ∙ ap (list_any t.ends) rows_is in
    let number : lines.spot.cycle ≤ c.args.run.now.cycle + (first + count) = (let f = told_few t.ends told in let m = c.in_ok-told.ensures.count in omega (arith, at_cycle, f, m, c.loop-first.invariant.number)) in
    let cycle : c.run_cycles.new.run.cycle ≡ c.args.run.now.cycle + (first + count) = (let e = c.in_ok-told.ensures.cycle in omega (arith, e, c.loop-first.invariant.cycle)) in
    let old = g.K.Sink.written c.args.sink.now in
    let middle = g.K.Sink.written c.loop-first.sink in
    let new = g.K.Sink.written c.put_all.new.sink in
    record {
      within = within;
      went = λ ordered watched parts s is feeds.
          let w = c.loop-first.invariant.went ordered watched parts s is feeds in
          let u = c.in_ok-told.ensures.rows ordered watched parts w.1.state w.1.is_run feeds in
          let script = c.in_ok-told.ensures.closed ordered watched parts w.1.state w.1.is_run feeds in (
            w.0 ++ lines.bytes.items,
            went_next ordered watched parts s (g.F.Feed.given c.args.course.now.feed.now) t c.args.run.now.cycle first count c.loop-first.run c.run_cycles.new.run c.loop-first.tables w.0 lines.bytes.items c.loop-first.spot c.loop-first.ended w.1 on told u.0 u.1 text
                c.in_ok-told.told.1 lines.spot lines.ended c.push.new.self u.2 c.in_ok-told.ensures.cycle script c.in_ok-told.ensures.cycles least few c.in_ok-push.ensures.ok at_cycle at_before c.in_ok-lines.ensures.byte any,
            Appends-trans old middle new w.0 lines.bytes.items w.2 (subst (Appends middle new) c.as_slice-in-loop-first.ensures.value c.in_ok-put_all.ensures.all),
          );
      read = c.in_ok-lines.ensures.read;
      cycle = cycle;
      number = number;
      spared = c.in_ok-put_all.ensures.no_fault ∙ c.loop-first.invariant.spared;
    }

pub returns-clause-went : goal.returns-clause-went
returns-clause-went g c = λ ordered watched parts s is feeds.
    let w = c.loop-first.invariant.went ordered watched parts s is feeds in
    let within = c.loop-first.invariant.within in
    let all : (c.loop-first.first ≡ g.F.Feed.many c.args.course.now.feed.now) ⊎ (c.loop-first.ended ≡ true) = elim c.loop-first-test.branch [
      | then-loop-first-test+else-not-ended o ↦ inr (grind (arith, common_steps, o.if-not-ended))
      | else-loop-first-test o ↦ inl (omega (arith, o.loop-first-test, within, c.cycles-cycles.ensures))
    ] in
    (c.loop-first.first, w.0, within, all, w.1, w.2)
