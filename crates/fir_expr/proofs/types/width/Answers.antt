use Rattle.std.proofs.Common.{refl}
use Rattle.std.proofs.lemmas.Result.{err_from_is_err_and}
use Rattle.fir_grammar.specs.Reading.{no_memory}
use Rattle.token_reader.proofs.Takes.{flat_mark_taken}
use Rattle.fir_expr.proofs.TypeCases.{width_none, width_no_number, width_not_closed, width_read, width_begins}
use Rattle.fir_expr.proofs.types.width.Goals as goal

pub returns-in_err-part-clause-read : goal.returns-in_err-part-clause-read
returns-in_err-part-clause-read c = let p = err_from_is_err_and c.from_residual.result c.from_residual.ensures.1 in λ major names. rw (p.1, p.2, c.in_err-part.ensures.err) no_memory

pub returns-then-not-is_mark-clause-read : goal.returns-then-not-is_mark-clause-read
returns-then-not-is_mark-clause-read c = λ major names. width_none c.args.text.now c.args.laid.now c.args.at c.requires.begins.0 names c.in_ok-part.part c.requires.begins.1.stands c.in_ok-part.ensures.ok
    (λ t. let e = (c.is_mark.ensures c.args.text.now).1 t in let n = c.if-not-is_mark.true in cc)

pub returns-in_err-_place-clause-read : goal.returns-in_err-_place-clause-read
returns-in_err-_place-clause-read c =
    let p = err_from_is_err_and c.from_residual-in_err-_place.result c.from_residual-in_err-_place.ensures.1 in
    let mark = flat_mark_taken 60 c.args.text.now c.args.laid.now c.args.at c.in_ok-part.part c.in_ok-part.ensures.ok ((c.is_mark.ensures c.args.text.now).0 c.if-not-is_mark.false) refl in
    λ major names. rw (p.1, p.2) (width_no_number c.args.text.now c.args.laid.now c.args.at c.requires.begins.0 c.in_ok-part.part c.requires.begins.1.stands mark c.in_err-_place.ensures.err)

pub returns-in_err-take_mark-clause-read : goal.returns-in_err-take_mark-clause-read
returns-in_err-take_mark-clause-read c =
    let p = err_from_is_err_and c.from_residual-in_err-take_mark.result c.from_residual-in_err-take_mark.ensures.1 in
    let mark = flat_mark_taken 60 c.args.text.now c.args.laid.now c.args.at c.in_ok-part.part c.in_ok-part.ensures.ok ((c.is_mark.ensures c.args.text.now).0 c.if-not-is_mark.false) refl in
    λ major names. rw (p.1, p.2) (width_not_closed c.args.text.now c.args.laid.now c.args.at c.requires.begins.0 c.in_ok-part.part c.requires.begins.1.stands mark c.in_ok-_place._place c.in_ok-_place.width c.in_ok-_place.ensures.ok c.in_err-take_mark.ensures.taken)

pub returns-clause-read : goal.returns-clause-read
returns-clause-read c =
    let mark = flat_mark_taken 60 c.args.text.now c.args.laid.now c.args.at c.in_ok-part.part c.in_ok-part.ensures.ok ((c.is_mark.ensures c.args.text.now).0 c.if-not-is_mark.false) refl in
    width_read c.args.text.now c.args.laid.now c.args.at c.requires.begins.0 c.in_ok-part.part c.requires.begins.1.stands mark c.in_ok-_place._place c.in_ok-_place.width c.in_ok-_place.ensures.ok _ c.in_ok-take_mark.ensures.taken

pub returns-clause-begins : goal.returns-clause-begins
returns-clause-begins c =
    let mark = flat_mark_taken 60 c.args.text.now c.args.laid.now c.args.at c.in_ok-part.part c.in_ok-part.ensures.ok ((c.is_mark.ensures c.args.text.now).0 c.if-not-is_mark.false) refl in
    λ brackets b. width_begins c.args.text.now c.args.laid.now c.args.at brackets c.in_ok-part.part b.stands mark c.in_ok-_place._place c.in_ok-_place.width c.in_ok-_place.ensures.ok _ c.in_ok-take_mark.ensures.taken
