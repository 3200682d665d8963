use Rattle.std.proofs.Common.{sym, subst}
use Rattle.ground_net.specs.Cycles.{next, instant_of}
use Rattle.net_run.specs.Seeing.{value_at}
use Rattle.net_run.specs.Keeping.{IsKept, AreInputValues}
use Rattle.circuit_run.specs.NetRuns.{given_in}
use Rattle.circuit_run.proofs.Fed.{row_given}
use Rattle.circuit_run.proofs.NetRuns.{one_cycle, row_watched}
use Rattle.circuit_run.proofs.cycles.run_cycle.Goals as goal

pub settle-requires-clause-inputs : goal.settle-requires-clause-inputs
settle-requires-clause-inputs c =
    let planned = c.requires.planned in
    let net = c.args.plan.now.ordered.now.net in
    let given = given_in c.args.plan.now.stimulus.now c.args.cycle in
    (given, subst (AreInputValues net given) (sym c.requires.inputs) (row_given net planned.net c.args.plan.now.ports.now planned.fed c.args.plan.now.stimulus.now planned.formed c.args.cycle))

pub returns : goal.returns
returns c =
    let planned = c.requires.planned in
    let net = c.args.plan.now.ordered.now.net in
    let ports = c.args.plan.now.ports.now in
    let stimulus = c.args.plan.now.stimulus.now in
    let cycle = c.args.cycle in
    let given = given_in stimulus cycle in
    let inputs = subst (AreInputValues net given) (sym c.requires.inputs) (row_given net planned.net ports planned.fed stimulus planned.formed cycle) in
    let values = c.in_ok-values.values.items in
    let row = row_watched net values c.as_slice.result.now ports.watched c.as_slice-watched.result.now c.in_ok-row.row planned.seen c.as_slice-watched.ensures c.as_slice.ensures.value c.in_ok-row.ensures in
    λ s k.
    let kept = subst (λ vs. IsKept net (next net s (instant_of net s (value_at vs))) c.in_ok-kept.kept) c.as_slice-2.ensures.value (c.in_ok-kept.ensures s k) in
    one_cycle net stimulus (λ t. IsKept net t c.in_ok-kept.kept) s cycle (value_at values) c.in_ok-row.row c.in_ok-lines.lines.items (c.in_ok-values.ensures.settled s given k inputs) row c.in_ok-lines.ensures kept
