use Rattle.std.proofs.lemmas.Result.{err_from_is_err_and}
use Rattle.std.proofs.Common.{◌∙◌}
use Rattle.fir_parser.proofs.Joins.{joins_on, first, later_on}
use Rattle.fir_parser.proofs.module.read_headed.Goals as goal

pub returns-in_err-name : goal.returns-in_err-name
returns-in_err-name c =
    let p = err_from_is_err_and c.from_residual.result c.from_residual.ensures.1 in
    rw (p.1, p.2) ((first _ c.in_err-name.ensures.reads))

pub returns-in_err-take : goal.returns-in_err-take
returns-in_err-take c =
    let p = err_from_is_err_and c.from_residual-in_err-take.result c.from_residual-in_err-take.ensures.1 in
    rw (p.1, p.2) ((later_on c.in_ok-name.ensures.reads (first _ c.in_err-take.ensures.reads)))

pub returns-in_err-inside : goal.returns-in_err-inside
returns-in_err-inside c =
    let p = err_from_is_err_and c.from_residual-in_err-inside.result c.from_residual-in_err-inside.ensures.1 in
    rw (p.1, p.2) ((later_on (joins_on c.in_ok-name.ensures.reads c.in_ok-take.ensures.reads) c.in_err-inside.ensures))

pub returns : goal.returns
returns c = ((joins_on (joins_on c.in_ok-name.ensures.reads c.in_ok-take.ensures.reads) c.in_ok-inside.ensures))

pub read_module_body-requires : goal.read_module_body-requires
read_module_body-requires c = (c.in_ok-take.ensures.reads.at, c.in_ok-take.ensures.reads.blocks ∙ (c.in_ok-name.ensures.reads.blocks ∙ c.requires.1))
