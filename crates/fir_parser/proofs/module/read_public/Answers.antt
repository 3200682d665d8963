use Rattle.std.proofs.lemmas.Result.{err_from_is_err_and}
use Rattle.std.proofs.Common.{◌∙◌}
use Rattle.fir_grammar.specs.Grammar.{a_public_module}
use Rattle.fir_parser.proofs.Joins.{joins_on, first, later_on, makes_on, breaks}
use Rattle.fir_parser.proofs.Modules.{into_public_module}
use Rattle.fir_parser.proofs.module.read_public.Goals as goal

pub returns-in_err-take : goal.returns-in_err-take
returns-in_err-take c =
    let p = err_from_is_err_and c.from_residual.result c.from_residual.ensures.1 in
    rw (p.1, p.2) (breaks a_public_module (into_public_module c.args.reader.now c.requires.word) (first _ c.in_err-take.ensures.reads))

pub returns-in_err-module : goal.returns-in_err-module
returns-in_err-module c =
    let p = err_from_is_err_and c.from_residual-in_err-module.result c.from_residual-in_err-module.ensures.1 in
    rw (p.1, p.2) (breaks a_public_module (into_public_module c.args.reader.now c.requires.word) (later_on c.in_ok-take.ensures.reads c.in_err-module.ensures))

pub returns : goal.returns
returns c = makes_on a_public_module (into_public_module c.args.reader.now c.requires.word) (joins_on c.in_ok-take.ensures.reads c.in_ok-module.ensures)

pub read_headed-requires : goal.read_headed-requires
read_headed-requires c = (c.in_ok-take.ensures.reads.at, c.in_ok-take.ensures.reads.blocks ∙ c.requires.inside.1)
