use Rattle.std.proofs.Common.{◌≡◌, ℕ, ◌<◌, length}
use Rattle.phase_core.specs.Script.{OwnRound, round_of}
use Rattle.phase_core.proofs.shape.owns_rounds.Given as goal

abbrev pub invariant-loop-cycle : goal.invariant-loop-cycle
invariant-loop-cycle l = (c : ℕ) → c < l.cycle → (length (round_of l.script c) ≡ l.script.workers) × OwnRound l.script (round_of l.script c)
