use Rattle.cone_cutter.proofs.Marks.{StandFor}
use Rattle.cone_cutter.proofs.marking.mark_needs.Given as goal

abbrev pub invariant-loop-mark : goal.invariant-loop-mark
invariant-loop-mark l = StandFor l.needed l.first l.mark l.marks
