use Rattle.std.proofs.lemmas.Option.{slice_get-get_or}
use Rattle.width_solver.proofs.Noting.{readers_more, readers_all}
use Rattle.width_solver.proofs.readers.readers_of.Goals as goal

pub loop-number-preserved : goal.loop-number-preserved
loop-number-preserved c =
    readers_more c.args.rules.now _ _ _ _ _ c.loop-number-test.true (slice_get-get_or c.args.rules.now _ _ c.loop-number-test.true) c.loop-number.invariant c.in_ok-note.ensures

pub returns : goal.returns
returns c = readers_all _ _ _ _ c.loop-number-test.false c.loop-number.invariant
