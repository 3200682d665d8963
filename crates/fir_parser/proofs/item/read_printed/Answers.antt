use Rattle.std.proofs.lemmas.Result.{err_from_is_err_and}
use Rattle.fir_grammar.specs.Grammar.{printed}
use Rattle.item_lines.specs.Formats.{shows}
use Rattle.fir_parser.proofs.Joins.{joins_on, first, later_on, makes_on, breaks}
use Rattle.fir_parser.proofs.Entering.{into_format, into_printed}
use Rattle.fir_parser.proofs.item.read_printed.Goals as goal

pub returns-in_err-pieces : goal.returns-in_err-pieces
returns-in_err-pieces c =
    let p = err_from_is_err_and c.from_residual.result c.from_residual.ensures.1 in
    let n = into_printed c.args.reader.now in
    rw (p.1, p.2) (breaks (printed n.0) n.1 (first _ (c.in_err-pieces.ensures.refused n.0)))

pub returns-in_err-arguments : goal.returns-in_err-arguments
returns-in_err-arguments c =
    let p = err_from_is_err_and c.from_residual-in_err-arguments.result c.from_residual-in_err-arguments.ensures.1 in
    rw (p.1, p.2) (breaks (printed (shows c.in_ok-pieces.pieces)) (into_format c.args.reader.now c.in_ok-pieces.pieces c.in_ok-pieces.ensures.here)
    (later_on c.in_ok-pieces.ensures.ok (first _ (rw c.as_slice.ensures at c.in_err-arguments.ensures))))

pub returns-in_err-take : goal.returns-in_err-take
returns-in_err-take c =
    let p = err_from_is_err_and c.from_residual-in_err-take.result c.from_residual-in_err-take.ensures.1 in
    rw (p.1, p.2) (breaks (printed (shows c.in_ok-pieces.pieces)) (into_format c.args.reader.now c.in_ok-pieces.pieces c.in_ok-pieces.ensures.here)
    (later_on (joins_on c.in_ok-pieces.ensures.ok (rw c.as_slice.ensures at c.in_ok-arguments.ensures)) c.in_err-take.ensures.reads))

pub returns : goal.returns
returns c = makes_on (printed (shows c.in_ok-pieces.pieces)) (into_format c.args.reader.now c.in_ok-pieces.pieces c.in_ok-pieces.ensures.here)
    (joins_on (joins_on c.in_ok-pieces.ensures.ok (rw c.as_slice.ensures at c.in_ok-arguments.ensures)) c.in_ok-take.ensures.reads)
