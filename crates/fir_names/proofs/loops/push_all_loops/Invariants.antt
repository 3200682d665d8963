use Rattle.fir_names.specs.Graphs.{Adds, LoopsBefore}
use Rattle.fir_names.proofs.loops.push_all_loops.Given as goal

abbrev pub invariant-loop-from : goal.invariant-loop-from
invariant-loop-from l = Adds (LoopsBefore l.graph l.from) l.fn.faults.items l.faults.items
