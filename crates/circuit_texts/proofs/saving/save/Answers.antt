use Rattle.std.proofs.Common.{◌+◌, [], sym, subst, ap, ◌∙◌, arith}
use Rattle.std.proofs.lemmas.List.Elements.{All-nil}
use Rattle.snapshot_text.specs.declared.snapshot.Snapshot.{Snapshot}
use Rattle.snapshot_text.specs.Snapshots.{HoldsState, snapshot_text}
use Rattle.crew_run.proofs.Counts.{ok_map}
use Rattle.circuit_texts.proofs.Begun.{starts_are_begins}
use Rattle.circuit_texts.proofs.Behind.{feeds_from, is_behind}
use Rattle.circuit_texts.proofs.ResumedTexts.{saved_of_run}
use Rattle.circuit_texts.proofs.saving.save.Goals as goal

pub start_at-requires-clause-may : goal.start_at-requires-clause-may
start_at-requires-clause-may g c = record { net = c.requires.planned.net; order = c.requires.planned.order; said = c.requires.said; leaves = All-nil _ }

pub start_at-requires-clause-words : goal.start_at-requires-clause-words
start_at-requires-clause-words g c = (c.requires.holds.0, record { within = c.requires.holds.1.within; are = c.requires.holds.1.words })

pub run_through-requires-clause-asks : goal.run_through-requires-clause-asks
run_through-requires-clause-asks g c κs within =
    let plan = c.args.plan.now in
    let holds = c.requires.holds in
    let run = c.in_ok-run.ensures.run holds.0 (record { within = holds.1.within; are = holds.1.words }) in
    (plan.ordered.now, [], run.0.parts, holds.0, run.2, feeds_from plan.ordered.now plan.ports.now plan.stimulus.now c.requires.planned c.args.start.now holds.0 holds.1)

pub run_through-requires-clause-numbers : goal.run_through-requires-clause-numbers
run_through-requires-clause-numbers g c κs within =
    let few = c.requires.planned.formed.few in
    let cycle = c.in_ok-run.ensures.cycle in
    let most = c.requires.cycle in
    omega (arith, few, cycle, most)

pub last_inputs-requires : goal.last_inputs-requires
last_inputs-requires g c =
    let plan = c.args.plan.now in
    (plan.ordered.now.net, feeds_from plan.ordered.now plan.ports.now plan.stimulus.now c.requires.planned c.args.start.now c.requires.holds.0 c.requires.holds.1)

pub print_state-requires-clause-holds : goal.print_state-requires-clause-holds
print_state-requires-clause-holds g c =
    let plan = c.args.plan.now in
    let start = c.args.start.now in
    let holds = c.requires.holds in
    let run = c.in_ok-run.ensures.run holds.0 (record { within = holds.1.within; are = holds.1.words }) in
    let w = c.in_ok-run_through.ensures.behind plan.ordered.now [] run.0.parts holds.0 run.2 (feeds_from plan.ordered.now plan.ports.now plan.stimulus.now c.requires.planned start holds.0 holds.1) in
    let behind : Snapshot = record { cycle = c.cycle.result; inputs = c.in_ok-last_inputs.field-0; words = c.in_ok-from_slice.field-0 } in
    let is = is_behind plan.ordered.now plan.ports.now plan.stimulus.now c.requires.planned start holds.0 holds.1 run.0.parts c.run_through.new.run w.0 w.1 w.2 behind
    (c.cycle.ensures ∙ (c.in_ok-run_through.ensures.cycle ∙ ap (λ n. n + plan.stimulus.now.cycles) c.in_ok-run.ensures.cycle)) c.in_ok-last_inputs.ensures (c.in_ok-from_slice.ensures ∙ (c.as_slice.ensures ∙ c.words.ensures)) in
    (w.0, subst (λ l. HoldsState plan.ordered.now.net l w.0 behind) (sym c.requires.planned.fed) is.holds)

pub returns-clause-kept : goal.returns-clause-kept
returns-clause-kept g c = λ t holds.
    let plan = c.args.plan.now in
    let start = c.args.start.now in
    let fed = c.requires.planned.fed in
    let run = c.in_ok-run.ensures.run t (record { within = holds.within; are = holds.words }) in
    let w = c.in_ok-run_through.ensures.behind plan.ordered.now [] run.0.parts t run.2 (feeds_from plan.ordered.now plan.ports.now plan.stimulus.now c.requires.planned start t holds) in
    let behind : Snapshot = record { cycle = c.cycle.result; inputs = c.in_ok-last_inputs.field-0; words = c.in_ok-from_slice.field-0 } in
    let is = is_behind plan.ordered.now plan.ports.now plan.stimulus.now c.requires.planned start t holds run.0.parts c.run_through.new.run w.0 w.1 w.2 behind
    (c.cycle.ensures ∙ (c.in_ok-run_through.ensures.cycle ∙ ap (λ n. n + plan.stimulus.now.cycles) c.in_ok-run.ensures.cycle)) c.in_ok-last_inputs.ensures (c.in_ok-from_slice.ensures ∙ (c.as_slice.ensures ∙ c.words.ensures)) in
    ok_map c.print_state.result (c.print_state.ensures w.0 (subst (λ l. HoldsState plan.ordered.now.net l w.0 behind) (sym fed) is.holds))
    (λ text e. record { behind = behind; state = w.0; reached = is; is = e ∙ ap (λ l. snapshot_text plan.ordered.now.net l w.0 behind) fed })

pub returns-clause-saved : goal.returns-clause-saved
returns-clause-saved g c = λ texts design serves apart begin is.
    let plan = c.args.plan.now in
    let start = c.args.start.now in
    let b = starts_are_begins texts design plan.ordered.now.net serves apart begin start is in
    ok_map c.print_state.result (returns-clause-kept g c b.1 b.2) (λ text t. saved_of_run texts design plan.ordered.now plan.ports.now plan.stimulus.now serves c.requires.planned begin start b.0 b.1 b.2 b.3 b.4 text.items t)
