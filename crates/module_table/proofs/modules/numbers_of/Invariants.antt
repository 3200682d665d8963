use Rattle.std.proofs.Common.{take}
use Rattle.module_table.specs.Tables.{IsIndexOf}
use Rattle.module_table.proofs.modules.numbers_of.Given as goal

abbrev pub invariant-loop-number : goal.invariant-loop-number
invariant-loop-number l = IsIndexOf l.modules l.numbers.entries (take l.number l.modules)
