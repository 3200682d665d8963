use Rattle.std.proofs.Common.{take}
use Rattle.drive_check.specs.Typing.{IsPlaced}
use Rattle.drive_check.proofs.module_types.numbers_of.Given as goal

abbrev pub invariant-loop-number : goal.invariant-loop-number
invariant-loop-number l = IsPlaced (take l.number l.names) l.numbers.entries
