use Rattle.std.proofs.Common.{length, ap, arith}
use Rattle.crew_workers.proofs.Asked.{asked_of}
use Rattle.worker_crew.proofs.run.run_epoch_within.Goals as goal

pub named_epoch-requires-clause-few : goal.named_epoch-requires-clause-few
named_epoch-requires-clause-few g c =
    let few = (asked_of c.args.codes.now c.args.words.now c.args.rows.now c.requires.runs).few in let same = ap length c.as_slice.ensures in omega (arith, few, same)
