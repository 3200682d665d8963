use Rattle.std.proofs.Common.{ℕ, ◌≡◌, ◌-◌, ◌≤◌, List}
use Rattle.shelf_io.specs.Outside.{Appends}
use Rattle.ground_net.specs.Cycles.{first_state}
use Rattle.circuit_run.specs.NetRuns.{LeadsOn}
use Rattle.circuit_run.proofs.running.write_cycles.Given as goal

abbrev pub invariant-loop-first : goal.invariant-loop-first
invariant-loop-first g l = record {
  within : l.first ≤ l.plan.stimulus.now.cycles;
  told : (lines : List ℕ) × LeadsOn l.plan.ordered.now.net l.plan.stimulus.now first_state 0 l.first l.kept lines × Appends (g.K.Sink.written l.fn.sink) (g.K.Sink.written l.sink) lines;
  spared : g.K.Sink.faults l.sink ≡ g.K.Sink.faults l.fn.sink;
}

abbrev pub decreases-loop-first : goal.decreases-loop-first
decreases-loop-first g l = l.cycles - l.first
