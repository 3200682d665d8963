use Rattle.std.proofs.Common.{ℕ, ◌≡◌, ◌+◌, ◌-◌, ◌≤◌, List}
use Rattle.ground_net.specs.declared.net.Ordered.{Ordered}
use Rattle.ground_net.specs.declared.net.CutPart.{CutPart}
use Rattle.ground_net.specs.Cycles.{NetState}
use Rattle.circuit_run.specs.NetRuns.{inputs_from}
use Rattle.crew_run.specs.Epochs.{Reaches}
use Rattle.crew_run.specs.Runs.{IsRun}
use Rattle.circuit_texts.proofs.saving.run_through.Given as goal

abbrev pub invariant-loop-first : goal.invariant-loop-first
invariant-loop-first g l = record {
  within : l.first ≤ g.F.Feed.many l.feed;
  went : (ordered : Ordered) (watched : List ℕ) (parts : List CutPart) (s : NetState) → IsRun ordered watched parts s l.fn.run → g.F.Feed.feeds l.feed ordered.net
      → (t : NetState) × Reaches ordered.net s (inputs_from (g.F.Feed.given l.feed) 0 l.first) t × IsRun ordered watched parts t l.run;
  cycle : l.run.cycle ≡ l.fn.run.cycle + l.first;
}

abbrev pub decreases-loop-first : goal.decreases-loop-first
decreases-loop-first g l = l.cycles - l.first
