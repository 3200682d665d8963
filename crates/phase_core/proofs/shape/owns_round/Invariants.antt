use Rattle.std.proofs.Common.{[], ℕ, ◌<◌, get_or}
use Rattle.phase_core.specs.Script.{IsPart}
use Rattle.phase_core.proofs.shape.owns_round.Given as goal

abbrev pub invariant-loop-worker : goal.invariant-loop-worker
invariant-loop-worker l = (w : ℕ) → w < l.worker → IsPart l.script w (get_or l.round w [])
