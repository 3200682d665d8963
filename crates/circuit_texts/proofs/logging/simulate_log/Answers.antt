use Rattle.std.proofs.Common.{◌≡◌, ◌<◌, ℕ, map, take, length, subst, sym, ap, ◌∙◌, arith}
use Rattle.std.specs.Prelude.{All, Some, slice_get, OnErr, OnOk}
use Rattle.std.proofs.lemmas.Result.{err_from_is_err_and}
use Rattle.shelf_io.specs.Outside.{Appends}
use Rattle.fir_tree.specs.declared.circuit.Circuit.{Circuit}
use Rattle.fir_tree.specs.declared.print.PrintItem.{PrintItem}
use Rattle.fir_meaning.specs.Components.{design_of}
use Rattle.ground_net.specs.Cycles.{first_state}
use Rattle.net_of_circuit.specs.FlatOrder.{all_leaves}
use Rattle.print_stop.specs.Logging.{log_telling, IsLogRow}
use Rattle.circuit_run.specs.NetRuns.{given_from}
use Rattle.circuit_run.proofs.Writing.{nothing_written}
use Rattle.crew_run.specs.RunTexts.{IsRunText}
use Rattle.found_items.specs.declared.found.ItemAt.{ItemAt}
use Rattle.circuit_texts.specs.Watched.{watch_of, ArePrints}
use Rattle.circuit_texts.proofs.Logged.{log_of_run}
use Rattle.circuit_texts.proofs.Plans.{few_leaves, all_there, row_fits, some_log, below_of}
use Rattle.circuit_texts.proofs.logging.simulate_log.Goals as goal

pub printed-requires : goal.printed-requires
printed-requires g c =
    let plan = c.args.plan.now in
    let can = c.requires in
    let texts = plan.fitted.now.checked.resolved.names in
    let design = design_of plan.fitted.now in
    let prints = plan.fitted.now.checked.resolved.prints in
    let all = all_leaves can.serves.of.placed in
    let found = c.in_ok-found.found in
    let f = c.in_ok-found.ensures can.serves.of.main can.serves.of.placed can.serves.of.found can.serves.of.order (few_leaves plan can) in
    let prints_are : c.as_slice-prints.result.now ≡ prints = c.as_slice-prints.ensures ∙ ap (λ (x : Circuit). x.prints) c.get.ensures in
    subst (λ l. All (λ (it : ItemAt). (print : PrintItem) × (slice_get l it.item ≡ Some print)) c.as_slice.result.now) (sym prints_are)
    (subst (All (λ (it : ItemAt). (print : PrintItem) × (slice_get prints it.item ≡ Some print))) (sym c.as_slice.ensures) (all_there texts design prints all f.0 found f.2))

pub start-requires-clause-may : goal.start-requires-clause-may
start-requires-clause-may g c =
    let plan = c.args.plan.now in
    let can = c.requires in
    let texts = plan.fitted.now.checked.resolved.names in
    let design = design_of plan.fitted.now in
    let prints = plan.fitted.now.checked.resolved.prints in
    let all = all_leaves can.serves.of.placed in
    let found = c.in_ok-found.found in
    let f = c.in_ok-found.ensures can.serves.of.main can.serves.of.placed can.serves.of.found can.serves.of.order (few_leaves plan can) in
    let prints_are : c.as_slice-prints.result.now ≡ prints = c.as_slice-prints.ensures ∙ ap (λ (x : Circuit). x.prints) c.get.ensures in
    let seen = c.as_slice-3.result.now in
    let seen_is : seen ≡ watch_of found = c.as_slice-3.ensures ∙ c.in_ok-watch.ensures ∙ ap watch_of c.as_slice-2.ensures in
    record { net = can.planned.net; order = can.planned.order; said = can.said; leaves = subst (All (λ x. x < length plan.ordered.now.net.leaves)) (sym seen_is) (below_of plan can f.0 found f.2) }

pub write_run-requires-clause-asks : goal.write_run-requires-clause-asks
write_run-requires-clause-asks g c κs within =
    let plan = c.args.plan.now in
    let can = c.requires in
    let texts = plan.fitted.now.checked.resolved.names in
    let design = design_of plan.fitted.now in
    let prints = plan.fitted.now.checked.resolved.prints in
    let all = all_leaves can.serves.of.placed in
    let found = c.in_ok-found.found in
    let f = c.in_ok-found.ensures can.serves.of.main can.serves.of.placed can.serves.of.found can.serves.of.order (few_leaves plan can) in
    let prints_are : c.as_slice-prints.result.now ≡ prints = c.as_slice-prints.ensures ∙ ap (λ (x : Circuit). x.prints) c.get.ensures in
    let seen = c.as_slice-3.result.now in
    let seen_is : seen ≡ watch_of found = c.as_slice-3.ensures ∙ c.in_ok-watch.ensures ∙ ap watch_of c.as_slice-2.ensures in
    let ps = map (λ item. item.now) c.in_ok-items.items in
    let of : ArePrints prints found ps = subst (λ l. ArePrints l found ps) prints_are (subst (λ l. ArePrints c.as_slice-prints.result.now l ps) c.as_slice.ensures c.in_ok-items.ensures) in (
      plan.ordered.now,
      seen,
      c.in_ok-run.ensures.run.0.parts,
      first_state,
      c.in_ok-run.ensures.run.2,
      record { well = can.planned.net; inputs_are = can.planned.fed; formed = can.planned.formed },
      record { each = λ t given rho settled. subst (λ l. IsLogRow ps (map rho l)) (sym seen_is) (row_fits texts design prints all f.0 found ps f.2 of rho) },
    )

pub write_run-requires-clause-numbers : goal.write_run-requires-clause-numbers
write_run-requires-clause-numbers g c κs within =
    let few = c.requires.planned.formed.few in
    let cycle = c.in_ok-run.ensures.cycle in
    omega (arith, few, cycle)

pub returns-in_err-found-clause-logged : goal.returns-in_err-found-clause-logged
returns-in_err-found-clause-logged g c =
    let p = err_from_is_err_and c.from_residual.result c.from_residual.ensures.1 in
    let some = some_log c.args.plan.now c.requires in
    rw p.1 (some.0, some.1, tt, (0, nothing_written (g.K.Sink.written c.args.sink.now)))

pub returns-in_err-items-clause-logged : goal.returns-in_err-items-clause-logged
returns-in_err-items-clause-logged g c =
    let p = err_from_is_err_and c.from_residual-in_err-items.result c.from_residual-in_err-items.ensures.1 in
    let some = some_log c.args.plan.now c.requires in
    rw p.1 (some.0, some.1, tt, (0, nothing_written (g.K.Sink.written c.args.sink.now)))

pub returns-in_err-watch-clause-logged : goal.returns-in_err-watch-clause-logged
returns-in_err-watch-clause-logged g c =
    let p = err_from_is_err_and c.from_residual-in_err-watch.result c.from_residual-in_err-watch.ensures.1 in
    let some = some_log c.args.plan.now c.requires in
    rw p.1 (some.0, some.1, tt, (0, nothing_written (g.K.Sink.written c.args.sink.now)))

pub returns-in_err-run-clause-logged : goal.returns-in_err-run-clause-logged
returns-in_err-run-clause-logged g c =
    let p = err_from_is_err_and c.from_residual-in_err-run.result c.from_residual-in_err-run.ensures.1 in
    let some = some_log c.args.plan.now c.requires in
    rw p.1 (some.0, some.1, tt, (0, nothing_written (g.K.Sink.written c.args.sink.now)))

pub returns-in-Ok-clause-logged : goal.returns-in-Ok-clause-logged
returns-in-Ok-clause-logged g c =
    let plan = c.args.plan.now in
    let can = c.requires in
    let texts = plan.fitted.now.checked.resolved.names in
    let design = design_of plan.fitted.now in
    let prints = plan.fitted.now.checked.resolved.prints in
    let all = all_leaves can.serves.of.placed in
    let found = c.in_ok-found.found in
    let f = c.in_ok-found.ensures can.serves.of.main can.serves.of.placed can.serves.of.found can.serves.of.order (few_leaves plan can) in
    let prints_are : c.as_slice-prints.result.now ≡ prints = c.as_slice-prints.ensures ∙ ap (λ (x : Circuit). x.prints) c.get.ensures in
    let seen = c.as_slice-3.result.now in
    let seen_is : seen ≡ watch_of found = c.as_slice-3.ensures ∙ c.in_ok-watch.ensures ∙ ap watch_of c.as_slice-2.ensures in
    let ps = map (λ item. item.now) c.in_ok-items.items in
    let of : ArePrints prints found ps = subst (λ l. ArePrints l found ps) prints_are (subst (λ l. ArePrints c.as_slice-prints.result.now l ps) c.as_slice.ensures c.in_ok-items.ensures) in
    let run = c.in_ok-run.ensures.run in
    let given = given_from plan.stimulus.now 0 plan.stimulus.now.cycles in
    let text = c.write_run.ensures.text plan.ordered.now seen run.0.parts first_state run.2 (record { well = can.planned.net; inputs_are = can.planned.fed; formed = can.planned.formed }) in
    let from_first : IsRunText plan.ordered.now.net seen first_state given (log_telling ps) 0 text.0 = subst (λ k. IsRunText plan.ordered.now.net seen first_state given (log_telling ps) k text.0) c.in_ok-run.ensures.cycle text.1 in
    let of_found : IsRunText plan.ordered.now.net (watch_of found) first_state given (log_telling ps) 0 text.0 = subst (λ l. IsRunText plan.ordered.now.net l first_state given (log_telling ps) 0 text.0) seen_is from_first in
    let log = log_of_run texts design prints plan.ordered.now can.serves f.0 found ps f.1 f.2 of plan.ports.now plan.stimulus.now can.planned text.0 of_found in
    (text.0, log, subst (λ r. OnOk r (Appends (g.K.Sink.written c.args.sink.now) (g.K.Sink.written c.write_run.new.sink) text.0)) c.in-Ok.is text.2, tt)

pub returns-clause-logged : goal.returns-clause-logged
returns-clause-logged g c =
    let plan = c.args.plan.now in
    let can = c.requires in
    let texts = plan.fitted.now.checked.resolved.names in
    let design = design_of plan.fitted.now in
    let prints = plan.fitted.now.checked.resolved.prints in
    let all = all_leaves can.serves.of.placed in
    let found = c.in_ok-found.found in
    let f = c.in_ok-found.ensures can.serves.of.main can.serves.of.placed can.serves.of.found can.serves.of.order (few_leaves plan can) in
    let prints_are : c.as_slice-prints.result.now ≡ prints = c.as_slice-prints.ensures ∙ ap (λ (x : Circuit). x.prints) c.get.ensures in
    let seen = c.as_slice-3.result.now in
    let seen_is : seen ≡ watch_of found = c.as_slice-3.ensures ∙ c.in_ok-watch.ensures ∙ ap watch_of c.as_slice-2.ensures in
    let ps = map (λ item. item.now) c.in_ok-items.items in
    let of : ArePrints prints found ps = subst (λ l. ArePrints l found ps) prints_are (subst (λ l. ArePrints c.as_slice-prints.result.now l ps) c.as_slice.ensures c.in_ok-items.ensures) in
    let run = c.in_ok-run.ensures.run in
    let given = given_from plan.stimulus.now 0 plan.stimulus.now.cycles in
    let text = c.write_run.ensures.text plan.ordered.now seen run.0.parts first_state run.2 (record { well = can.planned.net; inputs_are = can.planned.fed; formed = can.planned.formed }) in
    let from_first : IsRunText plan.ordered.now.net seen first_state given (log_telling ps) 0 text.0 = subst (λ k. IsRunText plan.ordered.now.net seen first_state given (log_telling ps) k text.0) c.in_ok-run.ensures.cycle text.1 in
    let of_found : IsRunText plan.ordered.now.net (watch_of found) first_state given (log_telling ps) 0 text.0 = subst (λ l. IsRunText plan.ordered.now.net l first_state given (log_telling ps) 0 text.0) seen_is from_first in
    let log = log_of_run texts design prints plan.ordered.now can.serves f.0 found ps f.1 f.2 of plan.ports.now plan.stimulus.now can.planned text.0 of_found in
    (text.0, log, tt, subst (λ r. OnErr r ((n : ℕ) × Appends (g.K.Sink.written c.args.sink.now) (g.K.Sink.written c.write_run.new.sink) (take n text.0))) c.in-Err.is text.3)
