use Rattle.snapshot_text.specs.Going.{HasNoHead}
use Rattle.snapshot_text.proofs.Lining.{no_feed_head}
use Rattle.snapshot_text.proofs.Heading.{one_word_head}
use Rattle.snapshot_text.proofs.Naming.{if_none}
use Rattle.snapshot_text.proofs.reading.parse_head.Goals as goal

pub returns-in_err-line-clause-none : goal.returns-in_err-line-clause-none
returns-in_err-line-clause-none c = if_none c.from_residual.result (HasNoHead c.args.bytes.now) (no_feed_head c.args.bytes.now c.in_err-line.ensures.none)

pub returns-in_err-word-clause-none : goal.returns-in_err-word-clause-none
returns-in_err-word-clause-none c =
    let l = c.in_ok-line.ensures.some in
    if_none c.from_residual-in_err-word.result (HasNoHead c.args.bytes.now) (one_word_head c.args.bytes.now c.in_ok-line.line.now c.in_ok-line.field-0-1.now l.0 l.1 c.in_err-word.ensures.none)
