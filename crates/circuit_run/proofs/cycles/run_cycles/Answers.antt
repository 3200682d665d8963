use Rattle.std.proofs.Common.{◌≡◌, ◌+◌, ◌-◌, ◌<◌, ◌++◌, length, get_or, sym, subst, ap, ◌∙◌, arith}
use Rattle.std.proofs.lemmas.List.FromFn.{length-map-range_with_len, get_or-map-range_with_len}
use Rattle.stimulus.specs.Rows.{row_in}
use Rattle.net_run.specs.Keeping.{IsKept}
use Rattle.circuit_run.specs.NetRuns.{LeadsOn}
use Rattle.circuit_run.proofs.NetRuns.{join}
use Rattle.circuit_run.proofs.cycles.run_cycles.Goals as goal

pub bounds-inputs-cycle : goal.bounds-inputs-cycle
bounds-inputs-cycle c =
    let row = row_in c.args.plan.now.ports.now c.args.plan.now.stimulus.now.settings in
    let long : length c.as_slice-inputs.result.now ≡ c.args.count = ap length (c.as_slice-inputs.ensures ∙ c.in_ok-inputs.ensures) ∙ length-map-range_with_len row c.args.first c.args.count in
    omega (arith, long, c.loop-cycle-test.true, c.loop-cycle.auto.cycle, c.loop-cycle.auto.cycle-end)

pub run_cycle-requires-clause-inputs : goal.run_cycle-requires-clause-inputs
run_cycle-requires-clause-inputs c =
    let row = row_in c.args.plan.now.ports.now c.args.plan.now.stimulus.now.settings in
    let at = c.loop-cycle.cycle - c.args.first in
    let below : at < c.args.count = omega (arith, c.loop-cycle-test.true, c.loop-cycle.auto.cycle, c.loop-cycle.auto.cycle-end) in
    let place : c.args.first + at ≡ c.loop-cycle.cycle = omega (arith, c.loop-cycle.auto.cycle) in
    c.as_slice-row.ensures ∙ (c.index-inputs-cycle.is ∙ (ap (λ rows. get_or rows at c.index-inputs-cycle.result) (c.as_slice-inputs.ensures ∙ c.in_ok-inputs.ensures)
    ∙ get_or-map-range_with_len row c.args.first c.args.count at c.loop-cycle.cycle c.index-inputs-cycle.result below place))

pub loop-cycle-preserved : goal.loop-cycle-preserved
loop-cycle-preserved c =
    let net = c.args.plan.now.ordered.now.net in
    let stimulus = c.args.plan.now.stimulus.now in
    let first = c.args.first in
    let cycle = c.loop-cycle.cycle in
    let kept = c.loop-cycle.kept in
    let told = c.in_ok-told.told in
    let stands = c.loop-cycle.invariant.stands in
    let next = c.in_ok-told.ensures stands.0 stands.1 in
    let place : cycle ≡ first + (cycle - first) = omega (arith, c.loop-cycle.auto.cycle) in
    let counted : cycle - first + 1 ≡ cycle + 1 - first = omega (arith, c.loop-cycle.auto.cycle) in
    let lines : c.extend_from_slice.new.self.items ≡ c.loop-cycle.lines.items ++ told.lines.items = c.in_ok-extend_from_slice.ensures.items ∙ ap (λ l. c.loop-cycle.lines.items ++ l) c.as_slice.ensures.value in
    record {
      stands = (next.state, next.kept);
      leads = λ s k.
          let both = join net stimulus (λ t. IsKept net t kept) (λ t. IsKept net t told.kept) s first (cycle - first) 1 c.loop-cycle.lines.items told.lines.items (c.loop-cycle.invariant.leads s k)
          (λ t h. subst (λ n. LeadsOn net stimulus t n 1 told.kept told.lines.items) place (c.in_ok-told.ensures t h)) in
          subst (LeadsOn net stimulus s first (cycle + 1 - first) told.kept) (sym lines) (subst (λ n. LeadsOn net stimulus s first n told.kept (c.loop-cycle.lines.items ++ told.lines.items)) counted both);
    }

pub returns : goal.returns
returns c =
    let net = c.args.plan.now.ordered.now.net in
    let stimulus = c.args.plan.now.stimulus.now in
    let counted : c.loop-cycle.cycle - c.args.first ≡ c.args.count = omega (arith, c.loop-cycle-test.false, c.loop-cycle.auto.cycle-end) in
    λ s k. subst (λ n. LeadsOn net stimulus s c.args.first n c.loop-cycle.kept c.loop-cycle.lines.items) counted (c.loop-cycle.invariant.leads s k)
