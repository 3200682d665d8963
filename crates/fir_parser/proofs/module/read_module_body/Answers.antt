use Rattle.std.proofs.lemmas.Result.{err_from_is_err_and}
use Rattle.std.proofs.Common.{refl}
use Rattle.fir_parser.proofs.Joins.{closes_again, first, later_on, makes_on, breaks}
use Rattle.fir_grammar.specs.Grammar.{a_module_body, no_module_body}
use Rattle.fir_parser.proofs.Entering.{enters_open}
use Rattle.fir_parser.proofs.Modules.{into_no_module_body}
use Rattle.fir_parser.proofs.Joins.{nothing_passed}
use Rattle.fir_parser.proofs.module.read_module_body.Goals as goal

pub returns-in_err-take_open : goal.returns-in_err-take_open
returns-in_err-take_open c =
    let p = err_from_is_err_and c.from_residual.result c.from_residual.ensures.1 in
    rw (p.1, p.2) (breaks a_module_body (enters_open a_module_body (λ ps. refl) c.args.reader.now c.if-not-meets.ensures) (first _ c.in_err-take_open.ensures.reads))

pub returns-in_err-body : goal.returns-in_err-body
returns-in_err-body c =
    let p = err_from_is_err_and c.from_residual-in_err-body.result c.from_residual-in_err-body.ensures.1 in
    rw (p.1, p.2) (breaks a_module_body (enters_open a_module_body (λ ps. refl) c.args.reader.now c.if-not-meets.ensures) (later_on c.in_ok-take_open.ensures.reads c.in_err-body.ensures))

pub returns : goal.returns
returns c = (makes_on a_module_body (enters_open a_module_body (λ ps. refl) c.args.reader.now c.if-not-meets.ensures) (closes_again c.requires.1 c.in_ok-take_open.ensures.reads c.in_ok-body.ensures))

pub returns-then-not-meets : goal.returns-then-not-meets
returns-then-not-meets c = rw (c.new.ensures, c.new-then-not-meets.ensures) (makes_on no_module_body (into_no_module_body c.args.reader.now c.if-not-meets.ensures) (nothing_passed c.args.reader.now c.requires.0))
