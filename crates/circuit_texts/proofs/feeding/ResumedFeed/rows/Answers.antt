use Rattle.std.proofs.Common.{◌+◌, length, ap, sym, subst, ◌∙◌}
use Rattle.crew_run.specs.Runs.{MatchGiven}
use Rattle.crew_run.proofs.Counts.{ok_map}
use Rattle.circuit_texts.specs.Going.{given_behind}
use Rattle.circuit_texts.proofs.GivenRows.{rows_long, rows_match}
use Rattle.circuit_texts.proofs.feeding.ResumedFeed.rows.Goals as goal

pub rows_from-requires-clause-formed : goal.rows_from-requires-clause-formed
rows_from-requires-clause-formed c = c.requires.feeds.1.feeds.formed

pub rows_from-requires-clause-start : goal.rows_from-requires-clause-start
rows_from-requires-clause-start c = c.requires.feeds.1.values

pub returns-clause-count : goal.returns-clause-count
returns-clause-count c = ok_map c.rows_from.result c.rows_from.ensures (λ rows e. ap length e ∙ rows_long c.args.self.now.start.now c.args.self.now.stimulus.now.settings c.args.first c.args.count)

pub returns-clause-matched : goal.returns-clause-matched
returns-clause-matched c = λ net feeds. ok_map c.rows_from.result c.rows_from.ensures
    (λ rows e. subst (MatchGiven net (λ k. given_behind c.args.self.now.start.now c.args.self.now.stimulus.now (c.args.first + k))) (sym e)
    (rows_match net feeds.feeds.well c.args.self.now.ports.now feeds.feeds.inputs_are c.args.self.now.stimulus.now feeds.feeds.formed c.args.self.now.start.now feeds.values c.args.first c.args.count))
