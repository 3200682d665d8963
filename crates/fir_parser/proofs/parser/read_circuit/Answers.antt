use Rattle.std.proofs.lemmas.Result.{err_from_is_err_and}
use Rattle.std.proofs.Common.{◌∙◌}
use Rattle.fir_parser.proofs.Joins.{joins, first, later}
use Rattle.fir_parser.proofs.Texts.{nothing_behind}
use Rattle.fir_parser.proofs.parser.read_circuit.Goals as goal

pub returns-in_err-name-clause-refused : goal.returns-in_err-name-clause-refused
returns-in_err-name-clause-refused c =
    let p = err_from_is_err_and c.from_residual.result c.from_residual.ensures.1 in
    rw (p.1, p.2) (first _ c.in_err-name.ensures.reads)

pub returns-in_err-take-clause-refused : goal.returns-in_err-take-clause-refused
returns-in_err-take-clause-refused c =
    let p = err_from_is_err_and c.from_residual-in_err-take.result c.from_residual-in_err-take.ensures.1 in
    rw (p.1, p.2) (later c.in_ok-name.ensures.reads.taken (first _ c.in_err-take.ensures.reads))

pub returns-in_err-modules-clause-refused : goal.returns-in_err-modules-clause-refused
returns-in_err-modules-clause-refused c =
    let p = err_from_is_err_and c.from_residual-in_err-modules.result c.from_residual-in_err-modules.ensures.1 in
    rw (p.1, p.2) (later (joins c.in_ok-name.ensures.reads.taken c.in_ok-take.ensures.reads.taken) (first _ c.in_err-modules.ensures))

pub returns-in_err-take-2-clause-refused : goal.returns-in_err-take-2-clause-refused
returns-in_err-take-2-clause-refused c =
    let p = err_from_is_err_and c.from_residual-in_err-take-2.result c.from_residual-in_err-take-2.ensures.1 in
    rw (p.1, p.2) (later (joins (joins c.in_ok-name.ensures.reads.taken c.in_ok-take.ensures.reads.taken) c.in_ok-modules.ensures.taken) c.in_err-take-2.ensures.reads)

pub returns-clause-ok : goal.returns-clause-ok
returns-clause-ok c = (joins (joins (joins c.in_ok-name.ensures.reads.taken c.in_ok-take.ensures.reads.taken) c.in_ok-modules.ensures.taken) c.in_ok-take-2.ensures.reads.taken)

pub returns-clause-end : goal.returns-clause-end
returns-clause-end c = rw (joins (joins c.in_ok-name.ensures.reads.taken c.in_ok-take.ensures.reads.taken) c.in_ok-modules.ensures.taken).laid at
    (nothing_behind c.read_circuit_body.new.reader c.take-2.new.reader c.in_ok-modules.ensures.at.laid c.in_ok-take-2.ensures.reads.taken)

pub read_circuit_body-requires : goal.read_circuit_body-requires
read_circuit_body-requires c = (c.in_ok-take.ensures.reads.at, c.in_ok-take.ensures.reads.blocks ∙ (c.in_ok-name.ensures.reads.blocks ∙ c.requires.1))
