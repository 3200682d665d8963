use Rattle.std.proofs.Common.{◌≡◌, ◌+◌, ◌≤◌, [], ◌++◌, length, take, refl, sym, subst, ◌∙◌, arith}
use Rattle.std.proofs.lemmas.Grind.{common_steps}
use Rattle.std.proofs.Math.Seq.{take-append_seam}
use Rattle.std.proofs.lemmas.Result.{err_from_is_err_and}
use Rattle.shelf_io.specs.Outside.{Appends}
use Rattle.shelf_io.proofs.Written.{Appends-trans}
use Rattle.ground_net.specs.Cycles.{first_state}
use Rattle.net_run.specs.Keeping.{IsKept}
use Rattle.circuit_run.specs.NetRuns.{LeadsOn}
use Rattle.circuit_run.proofs.Lists.{front_of}
use Rattle.circuit_run.proofs.NetRuns.{no_cycle, join, whole, extended}
use Rattle.circuit_run.proofs.Writing.{nothing_written}
use Rattle.circuit_run.proofs.running.write_cycles.Goals as goal

pub loop-first-init : goal.loop-first-init
loop-first-init g c = record {
  within = omega arith;
  told = ([], no_cycle c.args.plan.now.ordered.now.net c.args.plan.now.stimulus.now (λ t. IsKept c.args.plan.now.ordered.now.net t c.args.kept) first_state 0 c.requires.kept, nothing_written (g.K.Sink.written c.args.sink.now));
  spared = refl;
}

pub returns-in_err-told-clause-lines : goal.returns-in_err-told-clause-lines
returns-in_err-told-clause-lines g c =
    let planned = c.requires.planned in
    let p = err_from_is_err_and c.from_residual.result c.from_residual.ensures.1 in
    let before = c.loop-first.invariant.told in
    let net = c.args.plan.now.ordered.now.net in
    let more = extended net c.args.plan.now.stimulus.now (λ t. IsKept net t c.loop-first.kept) c.args.plan.now.ordered.now.sequence planned.net planned.order c.loop-first.first before.0 c.loop-first.invariant.within before.1 in
    rw p.1
    (before.0 ++ more.0, more.1, tt, (length before.0, subst (Appends (g.K.Sink.written c.args.sink.now) (g.K.Sink.written c.loop-first.sink)) (sym (take-append_seam before.0 more.0)) before.2))

pub returns-in_err-put_all-clause-lines : goal.returns-in_err-put_all-clause-lines
returns-in_err-put_all-clause-lines g c =
    let planned = c.requires.planned in
    let net = c.args.plan.now.ordered.now.net in
    let stimulus = c.args.plan.now.stimulus.now in
    let p = err_from_is_err_and c.from_residual-in_err-put_all.result c.from_residual-in_err-put_all.ensures.1 in
    let before = c.loop-first.invariant.told in
    let first = c.loop-first.first in
    let count = c.min-count.result in
    let told = c.in_ok-told.told in
    let place : first ≡ 0 + first = omega arith in
    let within : first + count ≤ stimulus.cycles = grind (arith, common_steps, c.min-count.ensures, c.loop-first-test.true) in
    let leads = join net stimulus (λ t. IsKept net t c.loop-first.kept) (λ t. IsKept net t told.kept) first_state 0 first count before.0 told.lines.items before.1
    (λ t k. subst (λ n. LeadsOn net stimulus t n count told.kept told.lines.items) place (c.in_ok-told.ensures t k)) in
    let more = extended net stimulus (λ t. IsKept net t told.kept) c.args.plan.now.ordered.now.sequence planned.net planned.order (first + count) (before.0 ++ told.lines.items) within leads in
    let old = g.K.Sink.written c.args.sink.now in
    let middle = g.K.Sink.written c.loop-first.sink in
    let new = g.K.Sink.written c.put_all.new.sink in
    let front = c.in_err-put_all.ensures.prefix in
    let put = subst (λ l. Appends middle new (take front.0 l)) c.as_slice.ensures.value front.1 in
    rw p.1 (
      (before.0 ++ told.lines.items) ++ more.0,
      more.1,
      tt,
      (
        length (before.0 ++ take front.0 told.lines.items),
        subst (Appends old new) (sym (front_of before.0 told.lines.items more.0 front.0))
            (Appends-trans old middle new before.0 (take front.0 told.lines.items) before.2 put),
      ),
    )

pub loop-first-preserved : goal.loop-first-preserved
loop-first-preserved g c =
    let net = c.args.plan.now.ordered.now.net in
    let stimulus = c.args.plan.now.stimulus.now in
    let before = c.loop-first.invariant.told in
    let first = c.loop-first.first in
    let count = c.min-count.result in
    let told = c.in_ok-told.told in
    let place : first ≡ 0 + first = omega arith in
    let leads = join net stimulus (λ t. IsKept net t c.loop-first.kept) (λ t. IsKept net t told.kept) first_state 0 first count before.0 told.lines.items before.1
    (λ t k. subst (λ n. LeadsOn net stimulus t n count told.kept told.lines.items) place (c.in_ok-told.ensures t k)) in
    let old = g.K.Sink.written c.args.sink.now in
    let middle = g.K.Sink.written c.loop-first.sink in
    let new = g.K.Sink.written c.put_all.new.sink in
    record {
      within = grind (arith, common_steps, c.min-count.ensures, c.loop-first-test.true);
      told = (before.0 ++ told.lines.items, leads, Appends-trans old middle new before.0 told.lines.items before.2 (subst (Appends middle new) c.as_slice.ensures.value c.in_ok-put_all.ensures.all));
      spared = c.in_ok-put_all.ensures.no_fault ∙ c.loop-first.invariant.spared;
    }

pub returns-clause-lines : goal.returns-clause-lines
returns-clause-lines g c =
    let before = c.loop-first.invariant.told in
    let all : c.loop-first.first ≡ c.args.plan.now.stimulus.now.cycles = omega (arith, c.loop-first-test.false, c.loop-first.invariant.within) in
    let net = c.args.plan.now.ordered.now.net in
    (before.0, whole net c.args.plan.now.stimulus.now (λ t. IsKept net t c.loop-first.kept) c.loop-first.first before.0 all before.1, before.2, tt)
