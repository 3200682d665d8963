use Rattle.prim_ops.proofs.Rows.{same_kind, same_width, same_bits}
use Rattle.prim_ops.proofs.laws.operations_have_one_result.Goals as goal

pub returns-clause-kind : goal.returns-clause-kind
returns-clause-kind c = same_kind

pub returns-clause-width : goal.returns-clause-width
returns-clause-width c = same_width

pub returns-clause-bits : goal.returns-clause-bits
returns-clause-bits c = same_bits
