use Rattle.std.proofs.lemmas.Result.{err_from_is_err_and}
use Rattle.fir_parser.proofs.Joins.{makes_on, breaks}
use Rattle.fir_grammar.specs.Grammar.{a_skip}
use Rattle.fir_parser.proofs.Entering.{into_skip}
use Rattle.fir_parser.proofs.statement.read_plain.Goals as goal

pub returns-in_err-place : goal.returns-in_err-place
returns-in_err-place c =
    let p = err_from_is_err_and c.from_residual.result c.from_residual.ensures.1 in
    rw (p.1, p.2) (breaks a_skip (into_skip c.args.reader.now c.if-meets.ensures c.if-meets-4.ensures c.if-meets-5.ensures c.if-meets-3.ensures c.if-meets-6.ensures c.if-meets-2.ensures c.if-meets-7.ensures c.if-meets-8.ensures c.requires.other c.if-meets-9.ensures c.if-meets-10.ensures) c.in_err-place.ensures)

pub returns : goal.returns
returns c = (makes_on a_skip (into_skip c.args.reader.now c.if-meets.ensures c.if-meets-4.ensures c.if-meets-5.ensures c.if-meets-3.ensures c.if-meets-6.ensures c.if-meets-2.ensures c.if-meets-7.ensures c.if-meets-8.ensures c.requires.other c.if-meets-9.ensures c.if-meets-10.ensures) c.in_ok-place.ensures)
