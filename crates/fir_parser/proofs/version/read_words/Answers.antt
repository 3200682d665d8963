use Rattle.std.proofs.lemmas.Result.{err_from_is_err_and}
use Rattle.fir_parser.proofs.Joins.{joins_on, first, later_on}
use Rattle.std.proofs.Common.{arith}
use Rattle.fir_parser.proofs.Texts.{no_second, one_step}
use Rattle.fir_parser.proofs.version.read_words.Goals as goal

pub returns-in_err-take-clause-reads : goal.returns-in_err-take-clause-reads
returns-in_err-take-clause-reads c =
    let p = err_from_is_err_and c.from_residual.result c.from_residual.ensures.1 in
    rw (p.1, p.2) (first _ c.in_err-take.ensures.reads)

pub returns-in_err-take-2-clause-reads : goal.returns-in_err-take-2-clause-reads
returns-in_err-take-2-clause-reads c =
    let p = err_from_is_err_and c.from_residual-in_err-take-2.result c.from_residual-in_err-take-2.ensures.1 in
    rw (p.1, p.2) (later_on c.in_ok-take.ensures.reads c.in_err-take-2.ensures.reads)

pub returns-clause-reads : goal.returns-clause-reads
returns-clause-reads c = (joins_on c.in_ok-take.ensures.reads c.in_ok-take-2.ensures.reads)

pub returns-in_err-take-2-clause-absent : goal.returns-in_err-take-2-clause-absent
returns-in_err-take-2-clause-absent c =
    let p = err_from_is_err_and c.from_residual-in_err-take-2.result c.from_residual-in_err-take-2.ensures.1 in
    rw p.1 (no_second _ _ c.in_ok-take.ensures.reads.taken c.in_err-take-2.ensures.missed)

pub returns-clause-two : goal.returns-clause-two
returns-clause-two c =
    let a = one_step _ _ _ c.in_ok-take.ensures.reads.taken in
    let b = one_step _ _ _ c.in_ok-take-2.ensures.reads.taken in
    omega (arith, a, b)
