use Rattle.std.proofs.lemmas.Result.{err_from_is_err_and}
use Rattle.fir_parser.proofs.Joins.{joins_on, first, later_on, makes_on, breaks}
use Rattle.fir_grammar.specs.Grammar.{with_label}
use Rattle.fir_parser.proofs.Entering.{into_label}
use Rattle.fir_parser.proofs.item.read_label.Goals as goal

pub returns-in_err-take : goal.returns-in_err-take
returns-in_err-take c =
    let p = err_from_is_err_and c.from_residual.result c.from_residual.ensures.1 in
    rw (p.1, p.2) (breaks with_label (into_label c.args.reader.now c.requires.colon) (first _ c.in_err-take.ensures.reads))

pub returns-in_err-take-2 : goal.returns-in_err-take-2
returns-in_err-take-2 c =
    let p = err_from_is_err_and c.from_residual-in_err-take-2.result c.from_residual-in_err-take-2.ensures.1 in
    rw (p.1, p.2) (breaks with_label (into_label c.args.reader.now c.requires.colon) (later_on c.in_ok-take.ensures.reads (first _ c.in_err-take-2.ensures.reads)))

pub returns-in_err-take-3 : goal.returns-in_err-take-3
returns-in_err-take-3 c =
    let p = err_from_is_err_and c.from_residual-in_err-take-3.result c.from_residual-in_err-take-3.ensures.1 in
    rw (p.1, p.2) (breaks with_label (into_label c.args.reader.now c.requires.colon) (later_on (joins_on c.in_ok-take.ensures.reads c.in_ok-take-2.ensures.reads) c.in_err-take-3.ensures.reads))

pub returns : goal.returns
returns c = makes_on with_label (into_label c.args.reader.now c.requires.colon) (joins_on (joins_on c.in_ok-take.ensures.reads c.in_ok-take-2.ensures.reads) c.in_ok-take-3.ensures.reads)
