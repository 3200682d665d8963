use Rattle.std.proofs.Common.{◌<◌, length}
use Rattle.crew_run.specs.Summaries.{IsInOneLine}
use Rattle.crew_run.proofs.summary.last_line.Given as goal

abbrev pub invariant-bytes : goal.invariant-bytes
invariant-bytes l = (l.start < length l.text) × IsInOneLine l.text l.start

abbrev pub decreases-bytes : goal.decreases-bytes
decreases-bytes l = l.start
