use Rattle.std.proofs.Common.{ℕ, ◌≡◌, ◌+◌, ◌-◌, ◌≤◌, List}
use Rattle.std.specs.Prelude.{IfSome}
use Rattle.shelf_io.specs.Outside.{Appends}
use Rattle.ground_net.specs.declared.net.Ordered.{Ordered}
use Rattle.ground_net.specs.declared.net.CutPart.{CutPart}
use Rattle.ground_net.specs.Cycles.{NetState}
use Rattle.crew_run.specs.Runs.{IsRun}
use Rattle.crew_run.specs.Progress.{Went}
use Rattle.crew_run.proofs.writing.write_epochs.Given as goal

abbrev pub invariant-loop-first : goal.invariant-loop-first
invariant-loop-first g l = record {
  within : l.first ≤ g.F.Feed.many l.course.feed.now;
  went : (ordered : Ordered) (watched : List ℕ) (parts : List CutPart) (s : NetState) → IsRun ordered watched parts s l.fn.run → g.F.Feed.feeds l.course.feed.now ordered.net
      → (lines : List ℕ) × Went ordered watched parts s (g.F.Feed.given l.course.feed.now) (g.T.Teller.tells l.course.teller.now) l.fn.run.cycle l.first l.run l.tables lines l.spot l.ended
      × Appends (g.K.Sink.written l.fn.sink) (g.K.Sink.written l.sink) lines;
  read : IfSome l.spot.before (g.T.Teller.reads l.course.teller.now);
  cycle : l.run.cycle ≡ l.fn.run.cycle + l.first;
  number : l.spot.cycle ≤ l.fn.run.cycle + l.first;
  spared : g.K.Sink.faults l.sink ≡ g.K.Sink.faults l.fn.sink;
}

abbrev pub decreases-loop-first : goal.decreases-loop-first
decreases-loop-first g l = l.cycles - l.first
