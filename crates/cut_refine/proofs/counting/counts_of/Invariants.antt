use Rattle.std.proofs.Common.{◌≡◌, ℕ, ◌≤◌, length, take, slice_index}
use Rattle.cut_refine.specs.Standing.{cone_of, AreCounts, IsReady}
use Rattle.cut_refine.proofs.counting.counts_of.Given as goal

abbrev pub invariant-loop-sink : goal.invariant-loop-sink
invariant-loop-sink l = record {
  counts : AreCounts (cone_of l.rows) l.rows.leaves (take l.sink-index l.sinks) l.counts;
  small : (x : ℕ) → slice_index l.counts x ≤ l.sink-index;
  ready : IsReady l.rows l.walker;
  turn : l.walker.turn ≡ l.sink-index;
}
