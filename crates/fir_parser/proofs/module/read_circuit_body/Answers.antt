use Rattle.std.proofs.lemmas.Result.{err_from_is_err_and}
use Rattle.std.proofs.Common.{refl}
use Rattle.fir_parser.proofs.Joins.{closes_again, first, later_on, makes_on, breaks}
use Rattle.fir_grammar.specs.Grammar.{some_modules, no_modules}
use Rattle.fir_parser.proofs.Entering.{enters_open}
use Rattle.fir_parser.proofs.Modules.{into_no_modules}
use Rattle.fir_parser.proofs.Joins.{nothing_passed}
use Rattle.fir_parser.proofs.module.read_circuit_body.Goals as goal

pub returns-in_err-take_open : goal.returns-in_err-take_open
returns-in_err-take_open c =
    let p = err_from_is_err_and c.from_residual.result c.from_residual.ensures.1 in
    rw (p.1, p.2) (breaks some_modules (enters_open some_modules (λ ps. refl) c.args.reader.now c.if-not-meets.ensures) (first _ c.in_err-take_open.ensures.reads))

pub returns-in_err-modules : goal.returns-in_err-modules
returns-in_err-modules c =
    let p = err_from_is_err_and c.from_residual-in_err-modules.result c.from_residual-in_err-modules.ensures.1 in
    rw (p.1, p.2) (breaks some_modules (enters_open some_modules (λ ps. refl) c.args.reader.now c.if-not-meets.ensures) (later_on c.in_ok-take_open.ensures.reads c.in_err-modules.ensures))

pub returns : goal.returns
returns c = (makes_on some_modules (enters_open some_modules (λ ps. refl) c.args.reader.now c.if-not-meets.ensures) (closes_again c.requires.1 c.in_ok-take_open.ensures.reads c.in_ok-modules.ensures))

pub returns-then-not-meets : goal.returns-then-not-meets
returns-then-not-meets c = rw c.new.ensures (makes_on no_modules (into_no_modules c.args.reader.now c.if-not-meets.ensures) (nothing_passed c.args.reader.now c.requires.0))
