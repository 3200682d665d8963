use Rattle.part_compile.proofs.Greatest.{live_room}
use Rattle.part_compile.proofs.frame_laws.live_assignments_have_room.Goals as goal

pub returns : goal.returns
returns c = live_room
