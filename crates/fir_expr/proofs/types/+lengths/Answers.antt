use Rattle.std.proofs.lemmas.Result.{err_from_is_err_and}
use Rattle.std.proofs.Common.{arith, []}
use Rattle.fir_grammar.specs.Reading.{no_memory}
use Rattle.token_reader.proofs.Depth.{whole_stands}
use Rattle.fir_expr.proofs.TypeLengths.{lengths_none, lengths_refused_first, lengths_refused, lengths_more}
use Rattle.fir_expr.proofs.types.+lengths.Goals as goal

pub returns-in_err-part-clause-err : goal.returns-in_err-part-clause-err
returns-in_err-part-clause-err t c = let p = err_from_is_err_and c.from_residual.result c.from_residual.ensures.1 in rw (p.1, p.2, c.in_err-part.ensures.err) no_memory

pub returns-then-not-is_mark-clause-ok : goal.returns-then-not-is_mark-clause-ok
returns-then-not-is_mark-clause-ok t c = lengths_none c.args.element c.requires.stands c.in_ok-part.ensures.ok (λ t. let e = (c.is_mark.ensures c.args.from.now.text.now).1 t in let n = c.if-not-is_mark.true in cc)

pub returns-in_err-length-clause-err : goal.returns-in_err-length-clause-err
returns-in_err-length-clause-err t c =
    let p = err_from_is_err_and c.from_residual-in_err-length.result c.from_residual-in_err-length.ensures.1 in
    rw (p.1, p.2) (lengths_refused_first c.in_ok-part.ensures.ok ((c.is_mark.ensures c.args.from.now.text.now).0 c.if-not-is_mark.false) c.in_err-length.ensures.err)

pub returns-in_err-new-clause-err : goal.returns-in_err-new-clause-err
returns-in_err-new-clause-err t c = let p = err_from_is_err_and c.from_residual-in_err-new.result c.from_residual-in_err-new.ensures.1 in rw (p.1, p.2) no_memory

pub lengths-requires : goal.lengths-requires
lengths-requires t c = (omega (arith, c.in_ok-length.ensures.few), (c.requires.source, (whole_stands (c.in_ok-length.ensures.ok 3 []).whole c.requires.stands, c.in_ok-length.ensures.counted)))

pub returns-in_err-read-clause-err : goal.returns-in_err-read-clause-err
returns-in_err-read-clause-err t c =
    let p = err_from_is_err_and c.from_residual-in_err-read.result c.from_residual-in_err-read.ensures.1 in
    rw (p.1, p.2) (lengths_refused c.in_ok-part.ensures.ok ((c.is_mark.ensures c.args.from.now.text.now).0 c.if-not-is_mark.false) c.in_ok-length.ensures.ok c.in_err-read.ensures.err)

pub returns-clause-ok : goal.returns-clause-ok
returns-clause-ok t c = lengths_more c.in_ok-part.ensures.ok ((c.is_mark.ensures c.args.from.now.text.now).0 c.if-not-is_mark.false) c.in_ok-length.ensures.ok c.in_ok-new.ensures c.in_ok-read.ensures.ok
