use Rattle.std.proofs.Common.{Some}
use Rattle.drive_check.proofs.Noting.{field_there}
use Rattle.drive_check.proofs.spot.to_field.Goals as goal

pub returns-in-Some : goal.returns-in-Some
returns-in-Some c = field_there c.args.reached.typ.now c.args.id (Some c.in-Some.part.typ.now) c.in-Some.ensures
