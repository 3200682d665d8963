use Rattle.std.proofs.lemmas.Result.{err_from_is_err_and}
use Rattle.fir_parser.proofs.Joins.{joins_on, first, later_on}
use Rattle.fir_parser.proofs.header.read_typed.Goals as goal

pub returns-in_err-name : goal.returns-in_err-name
returns-in_err-name c =
    let p = err_from_is_err_and c.from_residual.result c.from_residual.ensures.1 in
    rw (p.1, p.2) (first _ c.in_err-name.ensures.reads)

pub returns-in_err-typ : goal.returns-in_err-typ
returns-in_err-typ c =
    let p = err_from_is_err_and c.from_residual-in_err-typ.result c.from_residual-in_err-typ.ensures.1 in
    rw (p.1, p.2) (later_on c.in_ok-name.ensures.reads c.in_err-typ.ensures)

pub returns : goal.returns
returns c = (joins_on c.in_ok-name.ensures.reads c.in_ok-typ.ensures)
