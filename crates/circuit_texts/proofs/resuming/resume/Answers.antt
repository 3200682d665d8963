use Rattle.std.proofs.Common.{subst, ap, refl, ◌∙◌, arith}
use Rattle.std.proofs.lemmas.Result.{err_from_is_err_and}
use Rattle.circuit_run.proofs.Writing.{nothing_written}
use Rattle.crew_run.specs.RunTexts.{IsRunText}
use Rattle.crew_run.specs.TraceTexts.{names_at, telling_of_names}
use Rattle.crew_run.proofs.Counts.{ok_map}
use Rattle.circuit_texts.proofs.Begun.{starts_are_begins}
use Rattle.circuit_texts.specs.Going.{all_given_behind}
use Rattle.circuit_texts.proofs.Behind.{feeds_from}
use Rattle.circuit_texts.proofs.ResumedTexts.{some_text, resumed_of_run}
use Rattle.circuit_texts.proofs.resuming.resume.Goals as goal

pub start_at-requires-clause-may : goal.start_at-requires-clause-may
start_at-requires-clause-may g c = record { net = c.requires.planned.net; order = c.requires.planned.order; said = c.requires.said; leaves = c.requires.watched }

pub start_at-requires-clause-words : goal.start_at-requires-clause-words
start_at-requires-clause-words g c = (c.requires.holds.0, record { within = c.requires.holds.1.within; are = c.requires.holds.1.words })

pub write_run-requires-clause-asks : goal.write_run-requires-clause-asks
write_run-requires-clause-asks g c κs within =
    let plan = c.args.plan.now in
    let holds = c.requires.holds in
    let run = c.in_ok-run.ensures.run holds.0 (record { within = holds.1.within; are = holds.1.words }) in (
      plan.ordered.now,
      plan.watch.now,
      run.0.parts,
      holds.0,
      run.2,
      feeds_from plan.ordered.now plan.ports.now plan.stimulus.now c.requires.planned c.args.start.now holds.0 holds.1,
      record { each = λ t given rho settled. tt },
    )

pub write_run-requires-clause-numbers : goal.write_run-requires-clause-numbers
write_run-requires-clause-numbers g c κs within =
    let few = c.requires.planned.formed.few in
    let cycle = c.in_ok-run.ensures.cycle in
    let most = c.requires.cycle in
    omega (arith, few, cycle, most)

pub returns-in_err-names-clause-resumed : goal.returns-in_err-names-clause-resumed
returns-in_err-names-clause-resumed g c = λ default texts design serves apart begin is.
    let plan = c.args.plan.now in
    let start = c.args.start.now in
    let p = err_from_is_err_and c.from_residual.result c.from_residual.ensures.1 in
    let b = starts_are_begins texts design plan.ordered.now.net serves apart begin start is in
    let some = some_text plan.ordered.now plan.ports.now plan.stimulus.now plan.watch.now c.requires.planned b.1 start in
    rw p.1 (
      some.0,
      resumed_of_run texts design plan.ordered.now plan.ports.now plan.stimulus.now serves c.requires.planned begin start b.0 b.1 b.2 b.3 b.4 plan.watch.now default some.0 some.1,
      tt,
      (0, nothing_written (g.K.Sink.written c.args.sink.now)),
    )

pub returns-in_err-names-clause-lines : goal.returns-in_err-names-clause-lines
returns-in_err-names-clause-lines g c = λ t holds.
    let plan = c.args.plan.now in
    let p = err_from_is_err_and c.from_residual.result c.from_residual.ensures.1 in
    let some = some_text plan.ordered.now plan.ports.now plan.stimulus.now plan.watch.now c.requires.planned t c.args.start.now in
    rw p.1 (some.0, some.1, tt, (0, nothing_written (g.K.Sink.written c.args.sink.now)))

pub returns-in_err-run-clause-resumed : goal.returns-in_err-run-clause-resumed
returns-in_err-run-clause-resumed g c = λ default texts design serves apart begin is.
    let plan = c.args.plan.now in
    let start = c.args.start.now in
    let p = err_from_is_err_and c.from_residual-in_err-run.result c.from_residual-in_err-run.ensures.1 in
    let b = starts_are_begins texts design plan.ordered.now.net serves apart begin start is in
    let some = some_text plan.ordered.now plan.ports.now plan.stimulus.now plan.watch.now c.requires.planned b.1 start in
    rw p.1 (
      some.0,
      resumed_of_run texts design plan.ordered.now plan.ports.now plan.stimulus.now serves c.requires.planned begin start b.0 b.1 b.2 b.3 b.4 plan.watch.now default some.0 some.1,
      tt,
      (0, nothing_written (g.K.Sink.written c.args.sink.now)),
    )

pub returns-in_err-run-clause-lines : goal.returns-in_err-run-clause-lines
returns-in_err-run-clause-lines g c = λ t holds.
    let plan = c.args.plan.now in
    let p = err_from_is_err_and c.from_residual-in_err-run.result c.from_residual-in_err-run.ensures.1 in
    let some = some_text plan.ordered.now plan.ports.now plan.stimulus.now plan.watch.now c.requires.planned t c.args.start.now in
    rw p.1 (some.0, some.1, tt, (0, nothing_written (g.K.Sink.written c.args.sink.now)))

pub returns-clause-lines : goal.returns-clause-lines
returns-clause-lines g c = λ t holds.
    let plan = c.args.plan.now in
    let start = c.args.start.now in
    let net = plan.ordered.now.net in
    let given = all_given_behind start.inputs plan.stimulus.now in
    let run = c.in_ok-run.ensures.run t (record { within = holds.within; are = holds.words }) in
    let text = c.write_run.ensures.text plan.ordered.now plan.watch.now run.0.parts t run.2
    (feeds_from plan.ordered.now plan.ports.now plan.stimulus.now c.requires.planned start t holds) in
    let names_are = c.in_ok-names.ensures ∙ ap (λ l. names_at l plan.watch.now) c.as_slice.ensures in (
      text.0,
      subst (λ n. IsRunText net plan.watch.now t given (telling_of_names n) start.cycle text.0) names_are (subst (λ k. IsRunText net plan.watch.now t given (telling_of_names c.in_ok-names.names) k text.0) c.in_ok-run.ensures.cycle text.1),
      text.2,
      text.3,
    )

pub returns-clause-resumed : goal.returns-clause-resumed
returns-clause-resumed g c = λ default texts design serves apart begin is.
    let plan = c.args.plan.now in
    let start = c.args.start.now in
    let b = starts_are_begins texts design plan.ordered.now.net serves apart begin start is in
    let l = returns-clause-lines g c b.1 b.2 in
    (l.0, resumed_of_run texts design plan.ordered.now plan.ports.now plan.stimulus.now serves c.requires.planned begin start b.0 b.1 b.2 b.3 b.4 plan.watch.now default l.0 l.1, l.2, l.3)

pub returns-clause-closed : goal.returns-clause-closed
returns-clause-closed g c = λ t holds.
    let plan = c.args.plan.now in
    let start = c.args.start.now in
    let run = c.in_ok-run.ensures.run t (record { within = holds.within; are = holds.words }) in
    ok_map c.write_run.result
    (c.write_run.ensures.closed plan.ordered.now plan.watch.now run.0.parts t run.2
    (feeds_from plan.ordered.now plan.ports.now plan.stimulus.now c.requires.planned start t holds)
    (λ row. refl))
    (λ tables are. record { cut = run.0; is_cut = run.1; epochs = are })
