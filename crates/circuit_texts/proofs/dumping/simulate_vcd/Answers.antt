use Rattle.std.proofs.Common.{subst, refl, arith}
use Rattle.std.specs.List.{AllZip}
use Rattle.std.proofs.lemmas.Result.{err_from_is_err_and}
use Rattle.ground_net.specs.Cycles.{first_state}
use Rattle.vcd_write.specs.Pieces.{dump_telling}
use Rattle.circuit_run.specs.NetRuns.{given_from}
use Rattle.circuit_run.proofs.Writing.{nothing_written}
use Rattle.crew_run.specs.RunTexts.{IsRunText}
use Rattle.crew_run.proofs.Counts.{ok_map}
use Rattle.circuit_texts.specs.NetNames.{IsLeafAt}
use Rattle.circuit_texts.proofs.WatchedRows.{some_vars, row_is}
use Rattle.circuit_texts.proofs.DumpTexts.{some_text, dump_of_run}
use Rattle.circuit_texts.proofs.dumping.simulate_vcd.Goals as goal

pub start-requires-clause-may : goal.start-requires-clause-may
start-requires-clause-may g c = record { net = c.requires.planned.net; order = c.requires.planned.order; said = c.requires.said; leaves = c.requires.watched }

pub write_run-requires-clause-asks : goal.write_run-requires-clause-asks
write_run-requires-clause-asks g c κs within =
    let plan = c.args.plan.now in
    let net = plan.ordered.now.net in
    let vars = c.in_ok-vars.vars in
    let at : AllZip (IsLeafAt net.leaves) plan.watch.now vars = subst (λ l. AllZip (IsLeafAt l) plan.watch.now vars) c.as_slice.ensures c.in_ok-vars.ensures in (
      plan.ordered.now,
      plan.watch.now,
      c.in_ok-run.ensures.run.0.parts,
      first_state,
      c.in_ok-run.ensures.run.2,
      record { well = c.requires.planned.net; inputs_are = c.requires.planned.fed; formed = c.requires.planned.formed },
      record { each = λ t given rho settled. row_is net c.requires.planned.net plan.ordered.now.sequence c.requires.planned.order t given rho settled plan.watch.now vars at },
    )

pub write_run-requires-clause-numbers : goal.write_run-requires-clause-numbers
write_run-requires-clause-numbers g c κs within =
    let few = c.requires.planned.formed.few in
    let cycle = c.in_ok-run.ensures.cycle in
    omega (arith, few, cycle)

pub returns-in_err-vars-clause-dumped : goal.returns-in_err-vars-clause-dumped
returns-in_err-vars-clause-dumped g c = λ texts design names serves called are.
    let plan = c.args.plan.now in
    let p = err_from_is_err_and c.from_residual.result c.from_residual.ensures.1 in
    let vars = some_vars plan.ordered.now.net.leaves plan.watch.now c.requires.watched in
    let some = some_text plan.ordered.now plan.ports.now plan.stimulus.now plan.watch.now (dump_telling c.args.top.now vars.0) c.requires.planned in
    rw p.1 (some.0, dump_of_run texts design plan.ordered.now plan.ports.now plan.stimulus.now plan.watch.now names c.args.top.now vars.0 serves c.requires.planned called are vars.1 some.0 some.1, tt, (0, nothing_written (g.K.Sink.written c.args.sink.now)))

pub returns-in_err-run-clause-dumped : goal.returns-in_err-run-clause-dumped
returns-in_err-run-clause-dumped g c = λ texts design names serves called are.
    let plan = c.args.plan.now in
    let p = err_from_is_err_and c.from_residual-in_err-run.result c.from_residual-in_err-run.ensures.1 in
    let vars = some_vars plan.ordered.now.net.leaves plan.watch.now c.requires.watched in
    let some = some_text plan.ordered.now plan.ports.now plan.stimulus.now plan.watch.now (dump_telling c.args.top.now vars.0) c.requires.planned in
    rw p.1 (some.0, dump_of_run texts design plan.ordered.now plan.ports.now plan.stimulus.now plan.watch.now names c.args.top.now vars.0 serves c.requires.planned called are vars.1 some.0 some.1, tt, (0, nothing_written (g.K.Sink.written c.args.sink.now)))

pub returns-clause-dumped : goal.returns-clause-dumped
returns-clause-dumped g c = λ texts design names serves called are.
    let plan = c.args.plan.now in
    let net = plan.ordered.now.net in
    let vars = c.in_ok-vars.vars in
    let at : AllZip (IsLeafAt net.leaves) plan.watch.now vars = subst (λ l. AllZip (IsLeafAt l) plan.watch.now vars) c.as_slice.ensures c.in_ok-vars.ensures in
    let run = c.in_ok-run.ensures.run in
    let given = given_from plan.stimulus.now 0 plan.stimulus.now.cycles in
    let text = c.write_run.ensures.text plan.ordered.now plan.watch.now run.0.parts first_state run.2 (record { well = c.requires.planned.net; inputs_are = c.requires.planned.fed; formed = c.requires.planned.formed }) in
    let of = subst (λ k. IsRunText net plan.watch.now first_state given (dump_telling c.args.top.now vars) k text.0) c.in_ok-run.ensures.cycle text.1 in
    (text.0, dump_of_run texts design plan.ordered.now plan.ports.now plan.stimulus.now plan.watch.now names c.args.top.now vars serves c.requires.planned called are at text.0 of, text.2, text.3)

pub returns-clause-closed : goal.returns-clause-closed
returns-clause-closed g c =
    let plan = c.args.plan.now in
    let run = c.in_ok-run.ensures.run in
    ok_map c.write_run.result (c.write_run.ensures.closed plan.ordered.now plan.watch.now run.0.parts first_state run.2 (record { well = c.requires.planned.net; inputs_are = c.requires.planned.fed; formed = c.requires.planned.formed }) (λ row. refl))
    (λ tables are. record { cut = run.0; is_cut = run.1; epochs = are })
