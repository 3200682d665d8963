use Rattle.crew_workers.proofs.Rows.{below_of, below_next}
use Rattle.crew_workers.proofs.places.width_of.Goals as goal

pub loop-k-preserved : goal.loop-k-preserved
loop-k-preserved c =
    let codes = c.args.codes.now in let i = c.loop-k.invariant in let test = c.loop-k-test.true in let x = c.index-codes-k.result in let e = c.end_of-width.ensures in record {
      below = below_next codes c.loop-k.k _ _ x _ i.below test c.index-codes-k.is c.positions.ensures e.more e.below;
      least = λ n b. e.least n (i.least n b) (below_of codes n b c.loop-k.k x test c.index-codes-k.is _ c.positions.ensures);
    }
