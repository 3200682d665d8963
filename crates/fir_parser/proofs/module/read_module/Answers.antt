use Rattle.std.proofs.lemmas.Result.{err_from_is_err_and}
use Rattle.fir_grammar.specs.Grammar.{a_module}
use Rattle.fir_parser.proofs.Joins.{makes_on, breaks}
use Rattle.fir_parser.proofs.Modules.{into_plain_module}
use Rattle.fir_parser.proofs.module.read_module.Goals as goal

pub returns-in_err-module : goal.returns-in_err-module
returns-in_err-module c =
    let p = err_from_is_err_and c.from_residual.result c.from_residual.ensures.1 in
    rw (p.1, p.2) (breaks a_module (into_plain_module c.args.reader.now c.if-meets.ensures) c.in_err-module.ensures)

pub returns : goal.returns
returns c = makes_on a_module (into_plain_module c.args.reader.now c.if-meets.ensures) c.in_ok-module.ensures
