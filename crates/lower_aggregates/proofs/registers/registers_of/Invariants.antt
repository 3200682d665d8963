use Rattle.std.proofs.Common.{map, take}
use Rattle.lower_aggregates.specs.Held.{held_part}
use Rattle.lower_aggregates.specs.Registers.{AreRegisters}
use Rattle.lower_aggregates.proofs.registers.registers_of.Given as goal

abbrev pub invariant-loop-piece : goal.invariant-loop-piece
invariant-loop-piece l = AreRegisters l.known.entries (map held_part (take l.piece-index l.pieces)) l.registers
