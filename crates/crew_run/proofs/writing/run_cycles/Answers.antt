use Rattle.std.proofs.Common.{◌≡◌, ℕ, ◌+◌, ◌≤◌, length, sym, subst, ap, ◌∙◌, arith}
use Rattle.std.proofs.lemmas.List.FromFn.{length-map-range_with_len}
use Rattle.ground_net.specs.declared.net.Ordered.{Ordered}
use Rattle.phase_core.specs.declared.model.Script.{Script}
use Rattle.ground_net.specs.Cycles.{Inputs}
use Rattle.circuit_run.specs.NetRuns.{inputs_from}
use Rattle.crew_run.specs.Epochs.{Advances}
use Rattle.crew_run.specs.Runs.{MatchGiven}
use Rattle.crew_run.proofs.Counts.{ok_map, small}
use Rattle.crew_run.proofs.Going.{inputs_shift, go_counted}
use Rattle.crew_run.proofs.writing.run_cycles.Goals as goal

pub rows-requires-clause-feeds : goal.rows-requires-clause-feeds
rows-requires-clause-feeds g c = (c.requires.asks.0.net, c.requires.asks.5)

pub advance-requires-clause-run : goal.advance-requires-clause-run
advance-requires-clause-run g c κs within = (c.requires.asks.0, c.requires.asks.1, c.requires.asks.2, c.requires.asks.3, c.requires.asks.4)

pub advance-requires-clause-matched : goal.advance-requires-clause-matched
advance-requires-clause-matched g c κs within =
    let asks = c.requires.asks in
    let given : ℕ → Inputs = λ k. g.F.Feed.given c.args.feed.now (c.args.span.first + k) in
    (given, subst (λ (o : Ordered). MatchGiven o.net given c.in_ok-inputs.inputs) (sym asks.4.of) (c.in_ok-inputs.ensures.matched asks.0.net asks.5))

pub advance-requires-clause-fits : goal.advance-requires-clause-fits
advance-requires-clause-fits g c κs within =
    let is = c.requires.asks.4 in
    small (length c.in_ok-inputs.inputs) (length c.args.run.now.codes) (subst (λ n. n ≤ 1024) (sym c.in_ok-inputs.ensures.count) c.requires.few) (subst (λ n. n ≤ 64) (sym is.codes_of.counted) is.few)

pub returns-clause-rows : goal.returns-clause-rows
returns-clause-rows g c = λ ordered watched parts t is feeds.
    let given = g.F.Feed.given c.args.feed.now in
    let first = c.args.span.first in
    let z : first + 0 ≡ first = omega arith in
    let inputs = inputs_shift given first 0 (length c.in_ok-inputs.inputs) ∙ (ap (λ a. inputs_from given a (length c.in_ok-inputs.inputs)) z ∙ ap (inputs_from given first) c.in_ok-inputs.ensures.count) in
    ok_map c.advance.result (c.advance.ensures.rows ordered watched parts t (λ k. given (first + k)) is (c.in_ok-inputs.ensures.matched ordered.net feeds))
    (λ told u. (u.0, subst (λ i. Advances ordered.net watched t i told.0 u.0) inputs u.1, u.2))

pub returns-clause-count : goal.returns-clause-count
returns-clause-count g c =
    let asks = c.requires.asks in
    let given : ℕ → Inputs = λ k. g.F.Feed.given c.args.feed.now (c.args.span.first + k) in
    ok_map c.advance.result (c.advance.ensures.rows asks.0 asks.1 asks.2 asks.3 given asks.4 (c.in_ok-inputs.ensures.matched asks.0.net asks.5))
    (λ told u. go_counted asks.0.net asks.1 asks.3 u.0 (inputs_from given 0 (length c.in_ok-inputs.inputs)) u.1 ∙ (length-map-range_with_len given 0 (length c.in_ok-inputs.inputs) ∙ c.in_ok-inputs.ensures.count))

pub returns-clause-closed : goal.returns-clause-closed
returns-clause-closed g c = λ ordered watched parts t is feeds.
    c.advance.ensures.closed ordered watched parts t (λ k. g.F.Feed.given c.args.feed.now (c.args.span.first + k)) is (c.in_ok-inputs.ensures.matched ordered.net feeds)

pub returns-clause-cycles : goal.returns-clause-cycles
returns-clause-cycles g c = ok_map c.advance.result c.advance.ensures.script (λ told e. ap (λ (s : Script). s.cycles) e ∙ c.in_ok-inputs.ensures.count)

pub returns-clause-cycle : goal.returns-clause-cycle
returns-clause-cycle g c = ok_map c.advance.result c.advance.ensures.cycle (λ told e. e ∙ ap (λ n. c.args.run.now.cycle + n) c.in_ok-inputs.ensures.count)
