use Rattle.std.proofs.Common.{◌∙◌}
use Rattle.crew_run.proofs.Counts.{ok_map}
use Rattle.circuit_texts.proofs.Last.{none_last}
use Rattle.circuit_texts.proofs.saving.last_inputs.Goals as goal

pub rows_from-requires-clause-formed : goal.rows_from-requires-clause-formed
rows_from-requires-clause-formed c = c.requires.1.feeds.formed

pub rows_from-requires-clause-start : goal.rows_from-requires-clause-start
rows_from-requires-clause-start c = c.requires.1.values

pub returns-then-cycles-eq0 : goal.returns-then-cycles-eq0
returns-then-cycles-eq0 c =
    let feed = c.args.feed.now in
    ok_map c.from_slice.result c.from_slice.ensures (λ row e. e ∙ (c.as_slice.ensures ∙ none_last feed.ports.now feed.stimulus.now feed.start.now c.requires.1.feeds.formed c.if-cycles-eq0.true))
