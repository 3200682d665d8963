use Rattle.std.proofs.Common.{length, ◌-◌, ◌+◌, ◌≤◌, ◌≡◌, ℕ, List, true}
use Rattle.shelf_io.proofs.Written.{Gathered}
use Rattle.shelf_io.proofs.take.take_text.Given as goal

abbrev pub invariant-reading : goal.invariant-reading
invariant-reading g l = record {
  opened : g.H.Shelf.is_open l.shelf l.name ≡ true;
  holds : g.H.Shelf.held l.shelf ≡ g.H.Shelf.held l.fn.shelf;
  gathered : Gathered (g.H.Shelf.held l.fn.shelf) l.name l.text.items (g.H.Shelf.left l.shelf);
  room : length l.buf ≡ 4096;
  never_falls : (n : List ℕ) → g.H.Shelf.faults l.fn.shelf n ≤ g.H.Shelf.faults l.shelf n;
}

abbrev pub decreases-reading : goal.decreases-reading
decreases-reading g l = l.limit + 1 - length l.text.items
