use Rattle.std.proofs.Common.{refl}
use Rattle.std.specs.Fmt.{digits}
use Rattle.circuit_run.proofs.laws.a_line_has_the_cycle_and_the_integers.Goals as goal

pub returns : goal.returns
unfolding digits
returns c = refl
