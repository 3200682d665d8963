use Rattle.std.proofs.Common.{◌≤◌, length}
use Rattle.part_compile.specs.Rooms.{AreLive}
use Rattle.part_compile.proofs.Walking.{CountsAt}
use Rattle.part_compile.proofs.room.most_live.Given as goal

abbrev pub invariant-loop-at : goal.invariant-loop-at
invariant-loop-at l = AreLive l.net l.watch l.part l.most × (CountsAt l.net l.watch l.part l.at l.live × (l.at ≤ length l.part.assignments))

abbrev pub decreases-loop-at : goal.decreases-loop-at
decreases-loop-at l = l.at
