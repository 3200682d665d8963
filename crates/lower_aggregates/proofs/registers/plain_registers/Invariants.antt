use Rattle.std.proofs.Common.{◌≡◌, ◌+◌}
use Rattle.lower_aggregates.specs.Held.{held_part}
use Rattle.lower_aggregates.specs.Registers.{AreFirst, PlainReset}
use Rattle.lower_aggregates.proofs.registers.plain_registers.Given as goal

abbrev pub invariant-loop-at : goal.invariant-loop-at
invariant-loop-at l = record {
  number : l.number ≡ l.piece.first + l._at;
  so_far : AreFirst (held_part l.piece) PlainReset l._at l.own;
}
