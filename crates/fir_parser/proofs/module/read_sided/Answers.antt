use Rattle.std.proofs.lemmas.Result.{err_from_is_err_and}
use Rattle.std.proofs.Common.{not}
use Rattle.fir_parser.proofs.Joins.{makes_on, breaks}
use Rattle.fir_parser.proofs.Modules.{side_case, enters_side, side_port}
use Rattle.fir_parser.proofs.module.read_sided.Goals as goal

pub returns-in_err-name : goal.returns-in_err-name
returns-in_err-name c =
    let p = err_from_is_err_and c.from_residual.result c.from_residual.ensures.1 in
    rw (p.1, p.2) (breaks _ (enters_side c.args.reader.now c.meets-output.result c.meets-output.ensures) (rw c.side.ensures at c.in_err-name.ensures))

pub returns : goal.returns
returns c = rw (side_port c.args.reader.now.major (not c.meets-output.result) c.in_ok-name.name c.in_ok-name.typ) at
    (makes_on (side_case (not c.meets-output.result)) (enters_side c.args.reader.now c.meets-output.result c.meets-output.ensures) (rw c.side.ensures at c.in_ok-name.ensures))
