use Rattle.std.proofs.lemmas.Result.{err_from_is_err_and}
use Rattle.fir_parser.proofs.Joins.{joins_on, first, later_on}
use Rattle.fir_parser.proofs.header.read_named.Goals as goal

pub returns-in_err-take-clause-reads : goal.returns-in_err-take-clause-reads
returns-in_err-take-clause-reads c =
    let p = err_from_is_err_and c.from_residual.result c.from_residual.ensures.1 in
    rw (p.1, p.2) (first _ c.in_err-take.ensures.reads)

pub returns-in_err-name-clause-reads : goal.returns-in_err-name-clause-reads
returns-in_err-name-clause-reads c =
    let p = err_from_is_err_and c.from_residual-in_err-name.result c.from_residual-in_err-name.ensures.1 in
    rw (p.1, p.2) (later_on c.in_ok-take.ensures.reads (first _ c.in_err-name.ensures.reads))

pub returns-in_err-take-2-clause-reads : goal.returns-in_err-take-2-clause-reads
returns-in_err-take-2-clause-reads c =
    let p = err_from_is_err_and c.from_residual-in_err-take-2.result c.from_residual-in_err-take-2.ensures.1 in
    rw (p.1, p.2) (later_on (joins_on c.in_ok-take.ensures.reads c.in_ok-name.ensures.reads) c.in_err-take-2.ensures.reads)

pub returns-clause-reads : goal.returns-clause-reads
returns-clause-reads c = (joins_on (joins_on c.in_ok-take.ensures.reads c.in_ok-name.ensures.reads) c.in_ok-take-2.ensures.reads)
