use Rattle.std.proofs.Common.{arith}
use Rattle.circuit_make.proofs.Lengths.{ring_short}
use Rattle.circuit_make.proofs.ring.make_joined.Goals as goal

pub returns-clause-short : goal.returns-clause-short
returns-clause-short c =
    rw c.in_ok-ring.ensures (ring_short c.args.n c.args.cycles (omega (arith, c.if-n-eq0.false)) (omega (arith, c.if-n-gt-LIMIT.false)) (omega (arith, c.if-cycles-gt-LIMIT.false)))
