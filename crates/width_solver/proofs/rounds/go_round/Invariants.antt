use Rattle.std.proofs.Common.{◌++◌, drop, length}
use Rattle.width_solver.specs.Rounds.{Stands, Rises}
use Rattle.width_solver.proofs.rounds.go_round.Given as goal

abbrev pub invariant-loop-number : goal.invariant-loop-number
invariant-loop-number l = record {
  stands : Stands l.rules (length l.readers) (drop l.number-index l.pending ++ l.next.items) l.widths.items l.waits.items;
  rises : Rises l.fn.widths.items l.widths.items l.next.items;
}
