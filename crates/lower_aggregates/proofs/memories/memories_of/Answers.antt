use Rattle.lower_aggregates.proofs.Porting.{memories_more}
use Rattle.lower_aggregates.proofs.memories.memories_of.Goals as goal

pub loop-piece-preserved : goal.loop-piece-preserved
loop-piece-preserved c =
    memories_more c.args.names.now c.args.pieces.now c.loop-piece.piece-index c.piece-item.result c.loop-piece.memories c.push_memory.new.memories c.loop-piece-test.true c.piece-item.is c.loop-piece.invariant c.in_ok-push_memory.ensures
