use Rattle.width_solver.proofs.Noting.{notes_more}
use Rattle.width_solver.proofs.readers.note_all.Goals as goal

pub loop-variable-preserved : goal.loop-variable-preserved
loop-variable-preserved c = notes_more c.args.read.now _ _ _ _ _ _ c.loop-variable-test.true c.loop-variable.invariant c.in_ok-note_one.ensures
