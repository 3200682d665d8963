use Rattle.std.proofs.Common.{arith}
use Rattle.reference_flow.proofs.Ports.{reader-data, reader-none}
use Rattle.reference_flow.proofs.component.field_of_reader.Goals as goal

pub returns-in-3 : goal.returns-in-3
returns-in-3 c place = rw (c.in-3.is, reader-data c.args.memory.now place) c.stored.ensures.element

pub returns-in_default : goal.returns-in_default
returns-in_default c place = let w = c.in_default in (place, reader-none c.args.memory.now place c.args.id (omega (arith, c.in_default, c.requires)))
