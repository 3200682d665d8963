use Rattle.std.proofs.Common.{take}
use Rattle.width_solver.specs.Readers.{Notes}
use Rattle.width_solver.proofs.readers.note_all.Given as goal

abbrev pub invariant-loop-variable : goal.invariant-loop-variable
invariant-loop-variable l = Notes (take l.variable-index l.read) l.number l.fn.readers.items l.readers.items
