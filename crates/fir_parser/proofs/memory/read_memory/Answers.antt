use Rattle.std.proofs.lemmas.Result.{err_from_is_err_and}
use Rattle.std.proofs.Common.{refl, ◌∙◌}
use Rattle.fir_parser.proofs.Joins.{joins_on, joins_to, closes_again, first, later_on, makes_on, breaks}
use Rattle.fir_grammar.specs.Grammar.{a_memory}
use Rattle.fir_parser.proofs.Entering.{enters_word}
use Rattle.fir_parser.proofs.memory.read_memory.Goals as goal

pub returns-in_err-name : goal.returns-in_err-name
returns-in_err-name c =
    let p = err_from_is_err_and c.from_residual.result c.from_residual.ensures.1 in
    rw (p.1, p.2) (breaks a_memory (enters_word a_memory "mem" (λ ps. refl) c.args.reader.now c.requires.word) (first _ c.in_err-name.ensures.reads))

pub returns-in_err-take : goal.returns-in_err-take
returns-in_err-take c =
    let p = err_from_is_err_and c.from_residual-in_err-take.result c.from_residual-in_err-take.ensures.1 in
    rw (p.1, p.2) (breaks a_memory (enters_word a_memory "mem" (λ ps. refl) c.args.reader.now c.requires.word) (later_on c.in_ok-name.ensures.reads (first _ c.in_err-take.ensures.reads)))

pub returns-in_err-take_open : goal.returns-in_err-take_open
returns-in_err-take_open c =
    let p = err_from_is_err_and c.from_residual-in_err-take_open.result c.from_residual-in_err-take_open.ensures.1 in
    rw (p.1, p.2) (breaks a_memory (enters_word a_memory "mem" (λ ps. refl) c.args.reader.now c.requires.word) (later_on (joins_on c.in_ok-name.ensures.reads c.in_ok-take.ensures.reads) (first _ c.in_err-take_open.ensures.reads)))

pub returns-in_err-lines : goal.returns-in_err-lines
returns-in_err-lines c =
    let p = err_from_is_err_and c.from_residual-in_err-lines.result c.from_residual-in_err-lines.ensures.1 in
    rw (p.1, p.2) (breaks a_memory (enters_word a_memory "mem" (λ ps. refl) c.args.reader.now c.requires.word) (later_on (joins_to (joins_on c.in_ok-name.ensures.reads c.in_ok-take.ensures.reads) c.in_ok-take_open.ensures.reads) c.in_err-lines.ensures))

pub returns : goal.returns
returns c = (makes_on a_memory (enters_word a_memory "mem" (λ ps. refl) c.args.reader.now c.requires.word) (closes_again c.requires.inside.1 (joins_to (joins_on c.in_ok-name.ensures.reads c.in_ok-take.ensures.reads) c.in_ok-take_open.ensures.reads) c.in_ok-lines.ensures))

pub take_open-requires : goal.take_open-requires
take_open-requires c = (c.in_ok-take.ensures.reads.at, c.in_ok-take.ensures.reads.blocks ∙ (c.in_ok-name.ensures.reads.blocks ∙ c.requires.inside.1))
