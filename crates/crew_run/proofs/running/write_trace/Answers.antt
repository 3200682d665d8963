use Rattle.std.proofs.Common.{refl, subst, ap, ◌∙◌, arith}
use Rattle.std.proofs.lemmas.Result.{err_from_is_err_and}
use Rattle.ground_net.specs.Cycles.{first_state}
use Rattle.circuit_run.specs.NetRuns.{given_from}
use Rattle.circuit_run.proofs.Writing.{nothing_written}
use Rattle.crew_run.specs.RunTexts.{IsRunText}
use Rattle.crew_run.specs.TraceTexts.{names_at, telling_of_names}
use Rattle.crew_run.proofs.Traces.{some_text}
use Rattle.crew_run.proofs.running.write_trace.Goals as goal

pub start_cut-requires-clause-may : goal.start_cut-requires-clause-may
start_cut-requires-clause-may g c = record { net = c.requires.planned.net; order = c.requires.planned.order; said = c.requires.said; leaves = c.requires.watched }

pub write_run-requires-clause-asks : goal.write_run-requires-clause-asks
write_run-requires-clause-asks g c κs within =
    let plan = c.args.plan.now in (
      plan.ordered.now,
      plan.watch.now,
      plan.cut.now.parts,
      first_state,
      c.limit.ensures.run plan.ordered.now plan.watch.now plan.cut.now.parts first_state c.in_ok-run.ensures.run,
      record { well = c.requires.planned.net; inputs_are = c.requires.planned.fed; formed = c.requires.planned.formed },
      record { each = λ t given rho settled. tt },
    )

pub returns-in_err-names-clause-lines : goal.returns-in_err-names-clause-lines
returns-in_err-names-clause-lines g c =
    let plan = c.args.plan.now in
    let p = err_from_is_err_and c.from_residual.result c.from_residual.ensures.1 in
    let some = some_text plan.ordered.now plan.ports.now plan.stimulus.now plan.watch.now c.requires.planned in
    rw p.1 (some.0, some.1, tt, (0, nothing_written (g.K.Sink.written c.args.sink.now)))

pub returns-in_err-run-clause-lines : goal.returns-in_err-run-clause-lines
returns-in_err-run-clause-lines g c =
    let plan = c.args.plan.now in
    let p = err_from_is_err_and c.from_residual-in_err-run.result c.from_residual-in_err-run.ensures.1 in
    let some = some_text plan.ordered.now plan.ports.now plan.stimulus.now plan.watch.now c.requires.planned in
    rw p.1 (some.0, some.1, tt, (0, nothing_written (g.K.Sink.written c.args.sink.now)))

pub returns-clause-lines : goal.returns-clause-lines
returns-clause-lines g c =
    let plan = c.args.plan.now in
    let net = plan.ordered.now.net in
    let is = c.limit.ensures.run plan.ordered.now plan.watch.now plan.cut.now.parts first_state c.in_ok-run.ensures.run in
    let text = c.write_run.ensures.text plan.ordered.now plan.watch.now plan.cut.now.parts first_state is (record { well = c.requires.planned.net; inputs_are = c.requires.planned.fed; formed = c.requires.planned.formed }) in
    let given = given_from plan.stimulus.now 0 plan.stimulus.now.cycles in
    let names_are = c.in_ok-names.ensures in
    let cycle = c.limit.ensures.cycle ∙ c.in_ok-run.ensures.cycle in
    (text.0, subst (λ n. IsRunText net plan.watch.now first_state given (telling_of_names n) 0 text.0) (names_are ∙ ap (λ l. names_at l plan.watch.now) c.as_slice.ensures) (subst (λ k. IsRunText net plan.watch.now first_state given (telling_of_names c.in_ok-names.names) k text.0) cycle text.1), text.2, text.3)

pub returns-clause-closed : goal.returns-clause-closed
returns-clause-closed g c =
    let plan = c.args.plan.now in
    let is = c.limit.ensures.run plan.ordered.now plan.watch.now plan.cut.now.parts first_state c.in_ok-run.ensures.run in
    c.write_run.ensures.closed plan.ordered.now plan.watch.now plan.cut.now.parts first_state is (record { well = c.requires.planned.net; inputs_are = c.requires.planned.fed; formed = c.requires.planned.formed }) (λ row. refl)

pub write_run-requires-clause-numbers : goal.write_run-requires-clause-numbers
write_run-requires-clause-numbers g c κs within =
    let few = c.requires.planned.formed.few in
    let cycle = c.limit.ensures.cycle ∙ c.in_ok-run.ensures.cycle in
    omega (arith, few, cycle)
