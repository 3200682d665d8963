use Rattle.std.proofs.Common.{◌-◌, arith}
use Rattle.std.proofs.lemmas.Result.{err_from_is_err_and}
use Rattle.fir_grammar.specs.Reading.{no_memory}
use Rattle.fir_expr.proofs.LiteralCases.{numbers_none, numbers_no_number, numbers_refused_later, numbers_more, number_stands}
use Rattle.fir_expr.proofs.literals.+push_numbers.Goals as goal

pub returns-in_err-_first-clause-err : goal.returns-in_err-_first-clause-err
returns-in_err-_first-clause-err t c = let p = err_from_is_err_and c.from_residual.result c.from_residual.ensures.1 in rw (p.1, p.2, c.in_err-_first.ensures.err) no_memory

pub returns-then-count-eq0-clause-ok : goal.returns-then-count-eq0-clause-ok
returns-then-count-eq0-clause-ok t c =
    numbers_none c.args.text.now c.args.laid.now c.args.at c.requires.stands.0 c.requires.stands.1 c.in_ok-_first._first c.args.count c.args.list.now c.in_ok-_first.ensures.ok (omega (arith, c.if-count-eq0.true))

pub returns-in_err-_place-clause-err : goal.returns-in_err-_place-clause-err
returns-in_err-_place-clause-err t c =
    let p = err_from_is_err_and c.from_residual-in_err-_place.result c.from_residual-in_err-_place.ensures.1 in
    rw (p.1, p.2) (numbers_no_number c.args.text.now c.args.laid.now c.args.at c.requires.stands.0 c.requires.stands.1 c.in_ok-_first._first c.args.count (c.args.count - 1) c.in_ok-_first.ensures.ok
    (omega (arith, c.if-count-eq0.false)) c.in_err-_place.ensures.err)

pub returns-in_err-push-clause-err : goal.returns-in_err-push-clause-err
returns-in_err-push-clause-err t c = let p = err_from_is_err_and c.from_residual-in_err-push.result c.from_residual-in_err-push.ensures.1 in rw (p.1, p.2) no_memory

pub push_numbers-requires : goal.push_numbers-requires
push_numbers-requires t c = (
  omega (arith, c.if-count-eq0.false, c.decreases),
  (c.requires.source, (c.requires.stands.0, number_stands c.args.text.now c.args.laid.now c.args.at c.requires.stands.0 c.requires.stands.1 c.in_ok-_place._place c.in_ok-_place.number c.in_ok-_place.ensures.ok)),
)

pub returns-in_err-end-clause-err : goal.returns-in_err-end-clause-err
returns-in_err-end-clause-err t c =
    let p = err_from_is_err_and c.from_residual-in_err-end.result c.from_residual-in_err-end.ensures.1 in
    rw (p.1, p.2) (numbers_refused_later c.args.text.now c.args.laid.now c.args.at c.requires.stands.0 c.requires.stands.1 c.in_ok-_place._place c.in_ok-_place.number c.in_ok-_place.ensures.ok c.args.count (c.args.count - 1)
    (omega (arith, c.if-count-eq0.false)) c.in_err-end.ensures.err)

pub returns-clause-ok : goal.returns-clause-ok
returns-clause-ok t c =
    numbers_more c.args.text.now c.args.laid.now c.args.at c.requires.stands.0 c.requires.stands.1 c.in_ok-_place._place c.in_ok-_place.number c.in_ok-_place.ensures.ok c.args.count (c.args.count - 1) c.args.list.now _ _
    (omega (arith, c.if-count-eq0.false)) (rw c.in_ok-push.ensures.ok at c.in_ok-end.ensures.ok)
