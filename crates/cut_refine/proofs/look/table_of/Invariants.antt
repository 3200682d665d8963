use Rattle.std.proofs.Common.{◌≡◌, length, take}
use Rattle.std.specs.List.{AllZip}
use Rattle.cut_refine.specs.Refining.{IsRow}
use Rattle.cut_refine.specs.Standing.{cone_of, IsReady}
use Rattle.cut_refine.proofs.look.table_of.Given as goal

abbrev pub invariant-loop-sink : goal.invariant-loop-sink
invariant-loop-sink l = record {
  rows : AllZip (IsRow (cone_of l.rows) (length l.standing.costs.items) l.standing.owners.items) (take l.sink-index l.sinks) l.table;
  room : length l.shared ≡ length l.standing.costs.items;
  ready : IsReady l.rows l.walker;
  turn : l.walker.turn ≡ l.sink-index;
}
