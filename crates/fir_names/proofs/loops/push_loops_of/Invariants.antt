use Rattle.std.proofs.Common.{take}
use Rattle.fir_names.specs.Graphs.{Adds, LoopsOf}
use Rattle.fir_names.proofs.loops.push_loops_of.Given as goal

abbrev pub invariant-loop-edge : goal.invariant-loop-edge
invariant-loop-edge l = Adds (LoopsOf l.graph l.from (take l.edge-index l.out)) l.fn.faults.items l.faults.items
