use Rattle.std.proofs.Common.{◌+◌, length, ap, sym, subst, ◌∙◌}
use Rattle.circuit_run.specs.NetRuns.{given_in}
use Rattle.crew_run.specs.Runs.{MatchGiven}
use Rattle.crew_run.proofs.Counts.{ok_map}
use Rattle.crew_run.proofs.Matched.{rows_long, rows_match}
use Rattle.crew_run.proofs.feed.StimulatedFeed.rows.Goals as goal

pub rows-requires-clause-formed : goal.rows-requires-clause-formed
rows-requires-clause-formed c = c.requires.feeds.1.formed

pub returns-clause-count : goal.returns-clause-count
returns-clause-count c = ok_map c.rows.result c.rows.ensures (λ rows e. ap length e ∙ rows_long c.args.self.now.ports.now c.args.self.now.stimulus.now c.args.first c.args.count)

pub returns-clause-matched : goal.returns-clause-matched
returns-clause-matched c = λ net feeds. ok_map c.rows.result c.rows.ensures
    (λ rows e. subst (MatchGiven net (λ k. given_in c.args.self.now.stimulus.now (c.args.first + k))) (sym e)
    (rows_match net feeds.well c.args.self.now.ports.now feeds.inputs_are c.args.self.now.stimulus.now feeds.formed c.args.first c.args.count))
