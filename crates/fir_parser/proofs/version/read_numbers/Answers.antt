use Rattle.std.proofs.lemmas.Result.{err_from_is_err_and}
use Rattle.fir_parser.proofs.Joins.{joins_on, first, later_on}
use Rattle.fir_parser.proofs.version.read_numbers.Goals as goal

pub returns-in_err-take_next_number : goal.returns-in_err-take_next_number
returns-in_err-take_next_number c =
    let p = err_from_is_err_and c.from_residual.result c.from_residual.ensures.1 in
    rw (p.1, p.2) (first _ c.in_err-take_next_number.ensures.reads)

pub returns-in_err-take_next_number-2 : goal.returns-in_err-take_next_number-2
returns-in_err-take_next_number-2 c =
    let p = err_from_is_err_and c.from_residual-in_err-take_next_number-2.result c.from_residual-in_err-take_next_number-2.ensures.1 in
    rw (p.1, p.2) (later_on c.in_ok-take_next_number.ensures.reads (first _ c.in_err-take_next_number-2.ensures.reads))

pub returns-in_err-take : goal.returns-in_err-take
returns-in_err-take c =
    let p = err_from_is_err_and c.from_residual-in_err-take.result c.from_residual-in_err-take.ensures.1 in
    rw (p.1, p.2) (later_on (joins_on c.in_ok-take_next_number.ensures.reads c.in_ok-take_next_number-2.ensures.reads) c.in_err-take.ensures.reads)

pub returns : goal.returns
returns c = (joins_on (joins_on c.in_ok-take_next_number.ensures.reads c.in_ok-take_next_number-2.ensures.reads) c.in_ok-take.ensures.reads)
