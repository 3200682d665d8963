use Rattle.std.proofs.Common.{◌≡◌, ℕ, ◌+◌, ◌-◌, false, get_or, length}
use Rattle.width_fit.proofs.given.mark.Given as goal

abbrev pub decreases-loop-marks : goal.decreases-loop-marks
decreases-loop-marks l = l.at + 1 - length l.marks.items

abbrev pub invariant-loop-marks : goal.invariant-loop-marks
invariant-loop-marks l = (x : ℕ) → get_or l.marks.items x false ≡ get_or l.fn.marks.items x false
