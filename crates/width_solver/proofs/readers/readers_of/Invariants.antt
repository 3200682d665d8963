use Rattle.width_solver.specs.Readers.{AreReaders}
use Rattle.width_solver.proofs.readers.readers_of.Given as goal

abbrev pub invariant-loop-number : goal.invariant-loop-number
invariant-loop-number l = AreReaders l.rules l.count l.number l.readers.items
