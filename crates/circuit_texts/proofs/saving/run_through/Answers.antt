use Rattle.std.proofs.Common.{◌≡◌, ℕ, ◌+◌, ◌≤◌, length, sym, subst, ap, ◌∙◌, arith}
use Rattle.std.proofs.lemmas.Grind.{common_steps}
use Rattle.ground_net.specs.declared.net.Ordered.{Ordered}
use Rattle.ground_net.specs.Cycles.{Inputs}
use Rattle.circuit_run.specs.NetRuns.{inputs_from}
use Rattle.crew_run.specs.Epochs.{Reaches, there}
use Rattle.crew_run.specs.Runs.{MatchGiven}
use Rattle.crew_run.proofs.Counts.{small}
use Rattle.crew_run.proofs.Going.{inputs_shift, inputs_behind, reach_join, go_reaches}
use Rattle.circuit_texts.proofs.saving.run_through.Goals as goal

pub loop-first-init : goal.loop-first-init
loop-first-init g c = record {
  within = omega arith;
  went = λ ordered watched parts s is feeds. (s, there, is);
  cycle = omega arith;
}

pub rows-requires-clause-feeds : goal.rows-requires-clause-feeds
rows-requires-clause-feeds g c = (c.requires.asks.0.net, c.requires.asks.5)

pub advance-requires-clause-run : goal.advance-requires-clause-run
advance-requires-clause-run g c κs within =
    let asks = c.requires.asks in
    let w = c.loop-first.invariant.went asks.0 asks.1 asks.2 asks.3 asks.4 asks.5 in
    (asks.0, asks.1, asks.2, w.0, w.2)

pub advance-requires-clause-matched : goal.advance-requires-clause-matched
advance-requires-clause-matched g c κs within =
    let asks = c.requires.asks in
    let w = c.loop-first.invariant.went asks.0 asks.1 asks.2 asks.3 asks.4 asks.5 in
    let given : ℕ → Inputs = λ k. g.F.Feed.given c.args.feed.now (c.loop-first.first + k) in
    (given, subst (λ (o : Ordered). MatchGiven o.net given c.in_ok-rows.rows) (sym w.2.of) (c.in_ok-rows.ensures.matched asks.0.net asks.5))

pub advance-requires-clause-fits : goal.advance-requires-clause-fits
advance-requires-clause-fits g c κs within =
    let asks = c.requires.asks in
    let is = (c.loop-first.invariant.went asks.0 asks.1 asks.2 asks.3 asks.4 asks.5).2 in
    let few : c.min-count.result ≤ 1024 = grind (arith, common_steps, c.min-count.ensures) in
    small (length c.in_ok-rows.rows) (length c.loop-first.run.codes) (subst (λ n. n ≤ 1024) (sym c.in_ok-rows.ensures.count) few) (subst (λ n. n ≤ 64) (sym is.codes_of.counted) is.few)

pub loop-first-preserved : goal.loop-first-preserved
loop-first-preserved g c =
    let first = c.loop-first.first in
    let count = c.min-count.result in
    let given = g.F.Feed.given c.args.feed.now in
    let within : first + count ≤ g.F.Feed.many c.args.feed.now = grind (arith, common_steps, c.min-count.ensures, c.loop-first-test.true, c.cycles-cycles.ensures) in
    let cycle : c.advance.new.self.cycle ≡ c.args.run.now.cycle + (first + count) = (let e = c.in_ok-advance.ensures.cycle in let n = c.in_ok-rows.ensures.count in omega (arith, e, n, c.loop-first.invariant.cycle)) in
    record {
      within = within;
      went = λ ordered watched parts s is feeds.
          let w = c.loop-first.invariant.went ordered watched parts s is feeds in
          let u = c.in_ok-advance.ensures.rows ordered watched parts w.0 (λ k. given (first + k)) w.2 (c.in_ok-rows.ensures.matched ordered.net feeds) in
          let z : first + 0 ≡ first = omega arith in
          let inputs = inputs_shift given first 0 (length c.in_ok-rows.rows) ∙ (ap (λ a. inputs_from given a (length c.in_ok-rows.rows)) z ∙ ap (inputs_from given first) c.in_ok-rows.ensures.count) in
          let on = subst (λ i. Reaches ordered.net w.0 i u.0) inputs (go_reaches ordered.net watched w.0 u.0 (inputs_from (λ k. given (first + k)) 0 (length c.in_ok-rows.rows)) u.1) in (
            u.0,
            subst (λ i. Reaches ordered.net s i u.0) (inputs_behind given first count) (reach_join ordered.net s w.0 u.0 (inputs_from given 0 first) (inputs_from given first count) w.1 on),
            u.2,
          );
      cycle = cycle;
    }

pub returns-clause-behind : goal.returns-clause-behind
returns-clause-behind g c = λ ordered watched parts s is feeds.
    let w = c.loop-first.invariant.went ordered watched parts s is feeds in
    let within = c.loop-first.invariant.within in
    let all : c.loop-first.first ≡ g.F.Feed.many c.args.feed.now = omega (arith, c.loop-first-test.false, within, c.cycles-cycles.ensures) in
    (w.0, subst (λ n. Reaches ordered.net s (inputs_from (g.F.Feed.given c.args.feed.now) 0 n) w.0) all w.1, w.2)

pub returns-clause-cycle : goal.returns-clause-cycle
returns-clause-cycle g c =
    let within = c.loop-first.invariant.within in
    let cycle = c.loop-first.invariant.cycle in
    omega (arith, c.loop-first-test.false, within, cycle, c.cycles-cycles.ensures)
