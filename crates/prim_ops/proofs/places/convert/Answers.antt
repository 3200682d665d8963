use Rattle.prim_ops.proofs.Moves.{converted}
use Rattle.prim_ops.proofs.places.convert.Goals as goal

pub returns-in-Signed : goal.returns-in-Signed
returns-in-Signed c = converted c.args.operand c.in-Signed.is
