use Rattle.lower_aggregates.proofs.Registering.{registers_more}
use Rattle.lower_aggregates.proofs.registers.registers_of.Goals as goal

pub loop-piece-preserved : goal.loop-piece-preserved
loop-piece-preserved c =
    registers_more c.args.known.now.entries c.args.pieces.now c.loop-piece.piece-index c.piece-item.result c.loop-piece.registers c.in_ok-own.own c.push_all.new.registers c.loop-piece-test.true c.piece-item.is c.loop-piece.invariant
    c.in_ok-own.ensures c.in_ok-push_all.ensures
