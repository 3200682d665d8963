use Rattle.std.proofs.lemmas.Result.{err_from_is_err_and}
use Rattle.std.proofs.Common.{refl}
use Rattle.fir_parser.proofs.Joins.{joins_on, first, later_on, makes_on, breaks}
use Rattle.fir_grammar.specs.Grammar.{a_connect}
use Rattle.fir_parser.proofs.Entering.{enters_word}
use Rattle.fir_parser.proofs.statement.read_connect.Goals as goal

pub returns-in_err-take : goal.returns-in_err-take
returns-in_err-take c =
    let p = err_from_is_err_and c.from_residual.result c.from_residual.ensures.1 in
    rw (p.1, p.2) (breaks a_connect (enters_word a_connect "connect" (λ ps. refl) c.args.reader.now c.requires.1) (first _ c.in_err-take.ensures.reads))

pub returns-in_err-driven : goal.returns-in_err-driven
returns-in_err-driven c =
    let p = err_from_is_err_and c.from_residual-in_err-driven.result c.from_residual-in_err-driven.ensures.1 in
    rw (p.1, p.2) (breaks a_connect (enters_word a_connect "connect" (λ ps. refl) c.args.reader.now c.requires.1) (later_on c.in_ok-take.ensures.reads (first _ c.in_err-driven.ensures)))

pub returns-in_err-source : goal.returns-in_err-source
returns-in_err-source c =
    let p = err_from_is_err_and c.from_residual-in_err-source.result c.from_residual-in_err-source.ensures.1 in
    rw (p.1, p.2) (breaks a_connect (enters_word a_connect "connect" (λ ps. refl) c.args.reader.now c.requires.1) (later_on (joins_on c.in_ok-take.ensures.reads c.in_ok-driven.ensures) (first _ c.in_err-source.ensures)))

pub returns-in_err-take-2 : goal.returns-in_err-take-2
returns-in_err-take-2 c =
    let p = err_from_is_err_and c.from_residual-in_err-take-2.result c.from_residual-in_err-take-2.ensures.1 in
    rw (p.1, p.2) (breaks a_connect (enters_word a_connect "connect" (λ ps. refl) c.args.reader.now c.requires.1) (later_on (joins_on (joins_on c.in_ok-take.ensures.reads c.in_ok-driven.ensures) c.in_ok-source.ensures) c.in_err-take-2.ensures.reads))

pub returns : goal.returns
returns c = (makes_on a_connect (enters_word a_connect "connect" (λ ps. refl) c.args.reader.now c.requires.1) (joins_on (joins_on (joins_on c.in_ok-take.ensures.reads c.in_ok-driven.ensures) c.in_ok-source.ensures) c.in_ok-take-2.ensures.reads))
