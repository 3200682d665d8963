use Rattle.std.proofs.Common.{refl}
use Rattle.std.proofs.lemmas.Result.{err_from_is_err_and}
use Rattle.fir_grammar.specs.Grammar.{number, mark, Nothing}
use Rattle.std.specs.Prelude.{[], ◌∷◌}
use Rattle.token_reader.proofs.Composition.{refused_first}
use Rattle.fir_expr.proofs.TypeLengths.{length_no_number, length_not_closed, length_read, length_counted}
use Rattle.fir_expr.proofs.types.length.Goals as goal

pub returns-in_err-take_suffix-clause-err : goal.returns-in_err-take_suffix-clause-err
returns-in_err-take_suffix-clause-err c =
    let p = err_from_is_err_and c.from_residual.result c.from_residual.ensures.1 in
    rw (p.1, p.2) (refused_first (number ∷ mark 93 ∷ []) (c.in_err-take_suffix.ensures.taken.refused Nothing))

pub returns-in_err-_place-clause-err : goal.returns-in_err-_place-clause-err
returns-in_err-_place-clause-err c =
    let p = err_from_is_err_and c.from_residual-in_err-_place.result c.from_residual-in_err-_place.ensures.1 in
    rw (p.1, p.2) (length_no_number c.requires.stands (c.in_ok-take_suffix.ensures.few_brackets refl) c.in_ok-take_suffix.ensures.taken c.in_err-_place.ensures.err)

pub returns-in_err-take_mark-clause-err : goal.returns-in_err-take_mark-clause-err
returns-in_err-take_mark-clause-err c =
    let p = err_from_is_err_and c.from_residual-in_err-take_mark.result c.from_residual-in_err-take_mark.ensures.1 in
    rw (p.1, p.2) (length_not_closed c.requires.stands (c.in_ok-take_suffix.ensures.few_brackets refl) c.in_ok-take_suffix.ensures.taken c.in_ok-_place.ensures.ok c.in_err-take_mark.ensures.taken)

pub returns-clause-ok : goal.returns-clause-ok
returns-clause-ok c = length_read c.requires.stands (c.in_ok-take_suffix.ensures.few_brackets refl) c.in_ok-take_suffix.ensures.taken c.in_ok-_place.ensures.ok c.in_ok-take_mark.ensures.taken

pub returns-clause-counted : goal.returns-clause-counted
returns-clause-counted c = length_counted c.requires.stands (c.in_ok-take_suffix.ensures.few_brackets refl) c.in_ok-take_suffix.ensures.taken c.in_ok-_place.ensures.ok c.in_ok-take_mark.ensures.taken c.requires.counted
