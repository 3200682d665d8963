-- The room that is counted is within the bound.
use Rattle.std.proofs.Common.{ℕ, ◌≤◌, List, take, drop, arith}
use Rattle.std.proofs.lemmas.List.{take-append-drop}
use Rattle.ground_net.specs.declared.net.Net.{Net}
use Rattle.ground_net.specs.declared.net.CutPart.{CutPart}
use Rattle.part_compile.specs.Rooms.{HasRoom}
use Rattle.part_compile.specs.SlotBounds.{frame_bound}
use Rattle.part_compile.proofs.Greatest.{few_live}

pub room_fits : (net : Net) (watch : List ℕ) (part : CutPart) (room : ℕ) → HasRoom net watch part room → room ≤ frame_bound net watch part
room_fits net watch part room has =
    let few = has.few in
    let live = few_live net watch part (take has.at part.assignments) (drop has.at part.assignments) (take-append-drop has.at part.assignments) in
    omega (arith, few, live)
