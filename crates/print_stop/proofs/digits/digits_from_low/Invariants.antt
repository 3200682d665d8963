use Rattle.print_stop.proofs.LowDigits.{IsLeft}
use Rattle.print_stop.proofs.digits.digits_from_low.Given as goal

abbrev pub invariant-loop-rest : goal.invariant-loop-rest
invariant-loop-rest l = IsLeft l.base l.number l.rest l.low.items

abbrev pub decreases-loop-rest : goal.decreases-loop-rest
decreases-loop-rest l = l.rest
