use Rattle.std.proofs.Common.{◌-◌}
use Rattle.fir_expr.proofs.types.+lengths.Given as goal

abbrev pub decreases-lengths : goal.decreases-lengths
decreases-lengths l = 128 - l.passed
