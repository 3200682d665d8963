use Rattle.std.proofs.Common.{◌≡◌, ◌+◌}
use Rattle.lower_aggregates.specs.Held.{held_part}
use Rattle.lower_aggregates.specs.Registers.{AreFirst, ResetTo}
use Rattle.lower_aggregates.proofs.registers.reset_registers.Given as goal

abbrev pub invariant-loop-at : goal.invariant-loop-at
invariant-loop-at l = record {
  number : l.number ≡ l.piece.first + l.at;
  so_far : AreFirst (held_part l.piece) (ResetTo l.reset l.inits) l.at l.own;
}
