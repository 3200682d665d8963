use Rattle.std.proofs.Common.{◌≡◌, ℕ, ◌≤◌, length, take, slice_index}
use Rattle.cone_cutter.specs.Cuts.{placed}
use Rattle.cone_cutter.specs.Rows.{reads_in, needs_in}
use Rattle.cone_cutter.specs.Loads.{IsLoad}
use Rattle.cone_cutter.proofs.placing.place_all.Given as goal

abbrev pub invariant-loop-turn : goal.invariant-loop-turn
invariant-loop-turn l = record {
  load : IsLoad (reads_in l.rows) (needs_in l.rows) l.workers l.placings.items l.load;
  order : placed l.placings.items ≡ take l.turn l.order;
  count : length l.placings.items ≡ l.turn;
  long : length l.stamps ≡ length l.rows.reads.items;
  early : (v : ℕ) → slice_index l.stamps v ≤ l.turn;
}
