use Rattle.std.proofs.Common.{arith}
use Rattle.std.proofs.lemmas.Result.{err_from_is_err_and}
use Rattle.fir_expr.proofs.Passing.{room_step}
use Rattle.fir_expr.proofs.OperandsRead.{field_no_mark, field_no_field, field_stepped}
use Rattle.fir_expr.proofs.expressions.field.Goals as goal

pub returns-in_err-take_suffix : goal.returns-in_err-take_suffix
returns-in_err-take_suffix c = let p = err_from_is_err_and c.from_residual.result c.from_residual.ensures.1 in rw (p.1, p.2) (field_no_mark c.requires.begins c.in_err-take_suffix.ensures.taken)

pub take_name-requires-clause-room : goal.take_name-requires-clause-room
take_name-requires-clause-room c = let e = room_step c.args.names.now c.args.from.now.laid.now c.args.at _ c.in_ok-take_suffix.ensures.taken.here in omega (arith, e, c.requires.start.room)

pub returns-in_err-name : goal.returns-in_err-name
returns-in_err-name c =
    let p = err_from_is_err_and c.from_residual-in_err-name.result c.from_residual-in_err-name.ensures.1 in
    rw (p.1, p.2) (field_no_field c.requires.begins c.in_ok-take_suffix.ensures.taken c.in_err-name.ensures.err)

pub returns : goal.returns
returns c = (field_stepped c.requires.begins c.in_ok-take_suffix.ensures.taken c.in_ok-name.ensures.ok c.requires.start.stands, c.in_ok-take_suffix.ensures.few)
