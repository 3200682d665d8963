use Rattle.std.proofs.Common.{rules}
use Rattle.drive_check.proofs.Driving.{first_step}
use Rattle.drive_check.proofs.undriven.place_in_memory.Goals as goal

pub returns-in-Field : goal.returns-in-Field
returns-in-Field c = let e = first_step c.args.other c.args.memory.now c.args.path.now c.in-Field.port (search rules) in cc
