use Rattle.std.proofs.Common.{ℕ, ◌<◌}
use Rattle.phase_core.specs.Script.{owner}
use Rattle.phase_core.proofs.shape.has_owners.Given as goal

abbrev pub invariant-loop-found : goal.invariant-loop-found
invariant-loop-found l = (i : ℕ) → i < l.found-index → owner l.script i < l.script.workers
