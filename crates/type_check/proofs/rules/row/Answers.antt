use Rattle.type_check.proofs.Ways.{no_row}
use Rattle.type_check.proofs.rules.row.Goals as goal

pub returns-in_default-2 : goal.returns-in_default-2
returns-in_default-2 c = no_row c.args.op c.args.operands.now c.in_default.len_at_least
