use Rattle.std.proofs.lemmas.Result.{err_from_is_err_and}
use Rattle.std.proofs.Common.{refl}
use Rattle.fir_parser.proofs.Joins.{joins_on, first, later_on, makes_on, breaks}
use Rattle.fir_grammar.specs.Grammar.{a_print}
use Rattle.fir_parser.proofs.Entering.{enters_call}
use Rattle.fir_parser.proofs.item.read_print.Goals as goal

pub returns-in_err-place : goal.returns-in_err-place
returns-in_err-place c =
    let p = err_from_is_err_and c.from_residual.result c.from_residual.ensures.1 in
    rw (p.1, p.2) (breaks a_print (enters_call a_print "printf" (λ ps. refl) c.args.reader.now c.requires.1) (first _ c.in_err-place.ensures))

pub returns-in_err-enable : goal.returns-in_err-enable
returns-in_err-enable c =
    let p = err_from_is_err_and c.from_residual-in_err-enable.result c.from_residual-in_err-enable.ensures.1 in
    rw (p.1, p.2) (breaks a_print (enters_call a_print "printf" (λ ps. refl) c.args.reader.now c.requires.1) (later_on c.in_ok-place.ensures (first _ c.in_err-enable.ensures)))

pub returns-in_err-what : goal.returns-in_err-what
returns-in_err-what c =
    let p = err_from_is_err_and c.from_residual-in_err-what.result c.from_residual-in_err-what.ensures.1 in
    rw (p.1, p.2) (breaks a_print (enters_call a_print "printf" (λ ps. refl) c.args.reader.now c.requires.1) (later_on (joins_on c.in_ok-place.ensures c.in_ok-enable.ensures) (first _ c.in_err-what.ensures)))

pub returns-in_err-read_end : goal.returns-in_err-read_end
returns-in_err-read_end c =
    let p = err_from_is_err_and c.from_residual-in_err-read_end.result c.from_residual-in_err-read_end.ensures.1 in
    rw (p.1, p.2) (breaks a_print (enters_call a_print "printf" (λ ps. refl) c.args.reader.now c.requires.1) (later_on (joins_on (joins_on c.in_ok-place.ensures c.in_ok-enable.ensures) c.in_ok-what.ensures) c.in_err-read_end.ensures))

pub returns : goal.returns
returns c = makes_on a_print (enters_call a_print "printf" (λ ps. refl) c.args.reader.now c.requires.1) (joins_on (joins_on (joins_on c.in_ok-place.ensures c.in_ok-enable.ensures) c.in_ok-what.ensures) c.in_ok-read_end.ensures)
