use Rattle.std.proofs.Common.{◌-◌}
use Rattle.ground_net.specs.Cycles.{NetState}
use Rattle.net_run.specs.Keeping.{IsKept, StandsForState}
use Rattle.circuit_run.specs.NetRuns.{LeadsOn}
use Rattle.circuit_run.proofs.cycles.run_cycles.Given as goal

abbrev pub invariant-loop-cycle : goal.invariant-loop-cycle
invariant-loop-cycle l = record {
  stands : StandsForState l.plan.ordered.now.net l.kept;
  leads : (s : NetState) → IsKept l.plan.ordered.now.net s l.fn.kept → LeadsOn l.plan.ordered.now.net l.plan.stimulus.now s l.fn.first (l.cycle - l.fn.first) l.kept l.lines.items;
}
