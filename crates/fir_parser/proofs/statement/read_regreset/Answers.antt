use Rattle.std.proofs.lemmas.Result.{err_from_is_err_and}
use Rattle.std.proofs.Common.{refl}
use Rattle.fir_parser.proofs.Joins.{joins_on, first, later_on, makes_on, breaks}
use Rattle.fir_grammar.specs.Grammar.{a_reset_register}
use Rattle.fir_parser.proofs.Entering.{enters_word}
use Rattle.fir_parser.proofs.statement.read_regreset.Goals as goal

pub returns-in_err-typed : goal.returns-in_err-typed
returns-in_err-typed c =
    let p = err_from_is_err_and c.from_residual.result c.from_residual.ensures.1 in
    rw (p.1, p.2) (breaks a_reset_register (enters_word a_reset_register "regreset" (λ ps. refl) c.args.reader.now c.requires.1) (first _ c.in_err-typed.ensures))

pub returns-in_err-clock : goal.returns-in_err-clock
returns-in_err-clock c =
    let p = err_from_is_err_and c.from_residual-in_err-clock.result c.from_residual-in_err-clock.ensures.1 in
    rw (p.1, p.2) (breaks a_reset_register (enters_word a_reset_register "regreset" (λ ps. refl) c.args.reader.now c.requires.1) (later_on c.in_ok-typed.ensures (first _ c.in_err-clock.ensures)))

pub returns-in_err-reset : goal.returns-in_err-reset
returns-in_err-reset c =
    let p = err_from_is_err_and c.from_residual-in_err-reset.result c.from_residual-in_err-reset.ensures.1 in
    rw (p.1, p.2) (breaks a_reset_register (enters_word a_reset_register "regreset" (λ ps. refl) c.args.reader.now c.requires.1) (later_on (joins_on c.in_ok-typed.ensures c.in_ok-clock.ensures) (first _ c.in_err-reset.ensures)))

pub returns-in_err-init : goal.returns-in_err-init
returns-in_err-init c =
    let p = err_from_is_err_and c.from_residual-in_err-init.result c.from_residual-in_err-init.ensures.1 in
    rw (p.1, p.2) (breaks a_reset_register (enters_word a_reset_register "regreset" (λ ps. refl) c.args.reader.now c.requires.1) (later_on (joins_on (joins_on c.in_ok-typed.ensures c.in_ok-clock.ensures) c.in_ok-reset.ensures) (first _ c.in_err-init.ensures)))

pub returns-in_err-take : goal.returns-in_err-take
returns-in_err-take c =
    let p = err_from_is_err_and c.from_residual-in_err-take.result c.from_residual-in_err-take.ensures.1 in
    rw (p.1, p.2) (breaks a_reset_register (enters_word a_reset_register "regreset" (λ ps. refl) c.args.reader.now c.requires.1) (later_on (joins_on (joins_on (joins_on c.in_ok-typed.ensures c.in_ok-clock.ensures) c.in_ok-reset.ensures) c.in_ok-init.ensures) c.in_err-take.ensures.reads))

pub returns : goal.returns
returns c = (makes_on a_reset_register (enters_word a_reset_register "regreset" (λ ps. refl) c.args.reader.now c.requires.1) (joins_on (joins_on (joins_on (joins_on c.in_ok-typed.ensures c.in_ok-clock.ensures) c.in_ok-reset.ensures) c.in_ok-init.ensures) c.in_ok-take.ensures.reads))
