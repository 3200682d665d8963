use Rattle.std.proofs.lemmas.Result.{err_from_is_err_and}
use Rattle.std.proofs.Common.{refl}
use Rattle.fir_parser.proofs.Joins.{joins_on, first, later_on, makes_on, breaks}
use Rattle.fir_grammar.specs.Grammar.{an_instance}
use Rattle.fir_parser.proofs.Entering.{enters_word}
use Rattle.fir_parser.proofs.statement.read_inst.Goals as goal

pub returns-in_err-take : goal.returns-in_err-take
returns-in_err-take c =
    let p = err_from_is_err_and c.from_residual.result c.from_residual.ensures.1 in
    rw (p.1, p.2) (breaks an_instance (enters_word an_instance "inst" (λ ps. refl) c.args.reader.now c.requires.1) (first _ c.in_err-take.ensures.reads))

pub returns-in_err-name : goal.returns-in_err-name
returns-in_err-name c =
    let p = err_from_is_err_and c.from_residual-in_err-name.result c.from_residual-in_err-name.ensures.1 in
    rw (p.1, p.2) (breaks an_instance (enters_word an_instance "inst" (λ ps. refl) c.args.reader.now c.requires.1) (later_on c.in_ok-take.ensures.reads (first _ c.in_err-name.ensures.reads)))

pub returns-in_err-take-2 : goal.returns-in_err-take-2
returns-in_err-take-2 c =
    let p = err_from_is_err_and c.from_residual-in_err-take-2.result c.from_residual-in_err-take-2.ensures.1 in
    rw (p.1, p.2) (breaks an_instance (enters_word an_instance "inst" (λ ps. refl) c.args.reader.now c.requires.1) (later_on (joins_on c.in_ok-take.ensures.reads c.in_ok-name.ensures.reads) (first _ c.in_err-take-2.ensures.reads)))

pub returns-in_err-of : goal.returns-in_err-of
returns-in_err-of c =
    let p = err_from_is_err_and c.from_residual-in_err-of.result c.from_residual-in_err-of.ensures.1 in
    rw (p.1, p.2) (breaks an_instance (enters_word an_instance "inst" (λ ps. refl) c.args.reader.now c.requires.1) (later_on (joins_on (joins_on c.in_ok-take.ensures.reads c.in_ok-name.ensures.reads) c.in_ok-take-2.ensures.reads) (first _ c.in_err-of.ensures.reads)))

pub returns-in_err-take-3 : goal.returns-in_err-take-3
returns-in_err-take-3 c =
    let p = err_from_is_err_and c.from_residual-in_err-take-3.result c.from_residual-in_err-take-3.ensures.1 in
    rw (p.1, p.2) (breaks an_instance (enters_word an_instance "inst" (λ ps. refl) c.args.reader.now c.requires.1) (later_on (joins_on (joins_on (joins_on c.in_ok-take.ensures.reads c.in_ok-name.ensures.reads) c.in_ok-take-2.ensures.reads) c.in_ok-of.ensures.reads) c.in_err-take-3.ensures.reads))

pub returns : goal.returns
returns c = (makes_on an_instance (enters_word an_instance "inst" (λ ps. refl) c.args.reader.now c.requires.1) (joins_on (joins_on (joins_on (joins_on c.in_ok-take.ensures.reads c.in_ok-name.ensures.reads) c.in_ok-take-2.ensures.reads) c.in_ok-of.ensures.reads) c.in_ok-take-3.ensures.reads))
