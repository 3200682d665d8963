use Rattle.prim_ops.proofs.Divisions.{floor_least, floor_greatest}
use Rattle.prim_ops.proofs.laws.shifts_round_down.Goals as goal

pub returns-clause-least : goal.returns-clause-least
returns-clause-least c = floor_least

pub returns-clause-greatest : goal.returns-clause-greatest
returns-clause-greatest c = floor_greatest
