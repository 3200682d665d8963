use Rattle.std.proofs.Common.{refl}
use Rattle.std.proofs.lemmas.Result.{err_from_is_err_and}
use Rattle.token_reader.proofs.Sources.{source_part}
use Rattle.fir_expr.proofs.OperandsRead.{element_no_mark, element_no_number, element_not_closed, element_stepped}
use Rattle.fir_expr.proofs.expressions.element.Goals as goal

pub returns-in_err-mark : goal.returns-in_err-mark
returns-in_err-mark c = let p = err_from_is_err_and c.from_residual.result c.from_residual.ensures.1 in rw (p.1, p.2) (element_no_mark c.requires.begins c.requires.number c.in_err-mark.ensures.taken)

pub returns-in_err-place : goal.returns-in_err-place
returns-in_err-place c =
    let p = err_from_is_err_and c.from_residual-in_err-place.result c.from_residual-in_err-place.ensures.1 in
    rw (p.1, p.2) (element_no_number c.requires.begins c.requires.number c.in_ok-mark.ensures.taken c.in_err-place.ensures.err)

pub returns-in_err-take_mark : goal.returns-in_err-take_mark
returns-in_err-take_mark c =
    let p = err_from_is_err_and c.from_residual-in_err-take_mark.result c.from_residual-in_err-take_mark.ensures.1 in
    rw (p.1, p.2) (element_not_closed c.requires.begins c.requires.number c.in_ok-mark.ensures.taken c.in_ok-place.ensures.ok c.in_err-take_mark.ensures.taken)

pub place_of_part-requires-clause-inside : goal.place_of_part-requires-clause-inside
place_of_part-requires-clause-inside c = source_part c.args.from.now.text.now c.args.from.now.laid.now c.args.at c.in_ok-mark.mark c.requires.source c.in_ok-mark.ensures.taken.here

pub returns : goal.returns
returns c = (
  rw c.place_of_part.ensures (element_stepped c.requires.begins c.requires.number c.in_ok-mark.ensures.taken c.in_ok-place.ensures.ok c.args.names.now c.requires.stands (c.in_ok-mark.ensures.few_brackets refl) c.in_ok-take_mark.ensures.taken),
  c.in_ok-mark.ensures.few,
)
