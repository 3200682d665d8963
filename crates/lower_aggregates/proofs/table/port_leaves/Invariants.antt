use Rattle.std.proofs.Common.{◌≡◌, take}
use Rattle.std.specs.List.{sum_by}
use Rattle.lower_aggregates.specs.Tables.{port_size}
use Rattle.lower_aggregates.proofs.table.port_leaves.Given as goal

abbrev pub invariant-loop-piece : goal.invariant-loop-piece
invariant-loop-piece l = l.total ≡ sum_by port_size (take l.piece-index l.pieces)
