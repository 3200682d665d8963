use Rattle.std.proofs.Common.{arith}
use Rattle.crew_workers.proofs.places.longest_frame.Goals as goal

pub returns : goal.returns
returns c = λ k d h. let f = c.loop-k-test.false in c.loop-k.invariant.longest k d (omega (arith, h, f))
