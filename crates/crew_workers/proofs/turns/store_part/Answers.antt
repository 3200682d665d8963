use Rattle.std.proofs.Common.{arith}
use Rattle.phase_core.proofs.Lists.{at_index}
use Rattle.crew_workers.proofs.turns.store_part.Goals as goal

pub bounds-words-publication : goal.bounds-words-publication
bounds-words-publication c = let i = c.loop-publication.publication-index in let r = c.requires i _ (at_index c.args.part.now i (record { word = 0; value = 0 }) c.loop-publication-test.true) in
    let m = c.loop-publication.invariant.many in omega (arith, r, m)
