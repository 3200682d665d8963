use Rattle.std.proofs.Common.{rules}
use Rattle.lower_aggregates.proofs.Knowing.{known_more}
use Rattle.lower_aggregates.proofs.view.components_of.Goals as goal

pub loop-piece-preserved : goal.loop-piece-preserved
loop-piece-preserved c = known_more c.args.pieces.now c.loop-piece.piece-index c.piece-item.result _ _ (search rules) (search rules) c.loop-piece.invariant c.in_ok-insert_new.ensures
