use Rattle.std.proofs.lemmas.Result.{err_from_is_err_and}
use Rattle.std.proofs.Common.{refl}
use Rattle.fir_parser.proofs.Joins.{joins_on, first, later_on, makes_on, breaks}
use Rattle.fir_grammar.specs.Grammar.{a_node}
use Rattle.fir_parser.proofs.Entering.{enters_word}
use Rattle.fir_parser.proofs.statement.read_node.Goals as goal

pub returns-in_err-name : goal.returns-in_err-name
returns-in_err-name c =
    let p = err_from_is_err_and c.from_residual.result c.from_residual.ensures.1 in
    rw (p.1, p.2) (breaks a_node (enters_word a_node "node" (λ ps. refl) c.args.reader.now c.requires.1) (first _ c.in_err-name.ensures.reads))

pub returns-in_err-value : goal.returns-in_err-value
returns-in_err-value c =
    let p = err_from_is_err_and c.from_residual-in_err-value.result c.from_residual-in_err-value.ensures.1 in
    rw (p.1, p.2) (breaks a_node (enters_word a_node "node" (λ ps. refl) c.args.reader.now c.requires.1) (later_on c.in_ok-name.ensures.reads (first _ c.in_err-value.ensures)))

pub returns-in_err-take : goal.returns-in_err-take
returns-in_err-take c =
    let p = err_from_is_err_and c.from_residual-in_err-take.result c.from_residual-in_err-take.ensures.1 in
    rw (p.1, p.2) (breaks a_node (enters_word a_node "node" (λ ps. refl) c.args.reader.now c.requires.1) (later_on (joins_on c.in_ok-name.ensures.reads c.in_ok-value.ensures) c.in_err-take.ensures.reads))

pub returns : goal.returns
returns c = (makes_on a_node (enters_word a_node "node" (λ ps. refl) c.args.reader.now c.requires.1) (joins_on (joins_on c.in_ok-name.ensures.reads c.in_ok-value.ensures) c.in_ok-take.ensures.reads))
