use Rattle.part_compile.proofs.Frames.{few_live_slots}
use Rattle.part_compile.proofs.Driving.{placed_few}
use Rattle.part_compile.proofs.frame_laws.frames_are_few.Goals as goal

pub returns-clause-live : goal.returns-clause-live
returns-clause-live c = few_live_slots

pub returns-clause-placed : goal.returns-clause-placed
returns-clause-placed c = λ net watch part code placed most drivers. placed_few net watch part drivers code placed most
