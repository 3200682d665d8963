use Rattle.std.proofs.Common.{◌≡◌, ℕ, ◌<◌, ◌≤◌, length, slice_get, slice_index, Some, Vec, Global}
use Rattle.comb_order.proofs.first.never_rises.Given as goal

abbrev pub invariant-loop-vertex : goal.invariant-loop-vertex
invariant-loop-vertex l = (v : ℕ) (row : Vec ℕ Global) → v < l.vertex → slice_get l.reads v ≡ Some row → (k : ℕ) → k < length row.items → slice_index l.ranks (slice_index row.items k) ≤ slice_index l.ranks v
