use Rattle.std.proofs.lemmas.Result.{err_from_is_err_and}
use Rattle.fir_parser.proofs.Joins.{makes_on, breaks}
use Rattle.fir_grammar.specs.Grammar.{without_label}
use Rattle.fir_parser.proofs.Entering.{into_no_label}
use Rattle.fir_parser.proofs.item.read_end.Goals as goal

pub returns-in_err-take : goal.returns-in_err-take
returns-in_err-take c =
    let p = err_from_is_err_and c.from_residual.result c.from_residual.ensures.1 in
    rw (p.1, p.2) (breaks without_label (into_no_label c.args.reader.now c.if-meets.ensures) c.in_err-take.ensures.reads)

pub returns : goal.returns
returns c = makes_on without_label (into_no_label c.args.reader.now c.if-meets.ensures) c.in_ok-take.ensures.reads
