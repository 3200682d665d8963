use Rattle.std.proofs.Common.{arith}
use Rattle.crew_workers.proofs.places.most_published.Goals as goal

pub returns-clause-each : goal.returns-clause-each
returns-clause-each c = λ k d h. let f = c.loop-k-test.false in c.loop-k.invariant.greatest k d (omega (arith, h, f))

pub returns-clause-few : goal.returns-clause-few
returns-clause-few c = record {
  each = λ k d h. let f = c.loop-k-test.false in let most = c.loop-k.invariant.greatest k d (omega (arith, h, f)) in let word = c.loop-k.invariant.word in omega (arith, most, word);
}
