use Rattle.std.proofs.Common.{take}
use Rattle.lower_aggregates.specs.Views.{KnowsPieces}
use Rattle.lower_aggregates.proofs.view.components_of.Given as goal

abbrev pub invariant-loop-piece : goal.invariant-loop-piece
invariant-loop-piece l = KnowsPieces (take l.piece-index l.pieces) l.known.entries
