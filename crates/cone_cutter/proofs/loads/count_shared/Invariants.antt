use Rattle.std.proofs.Common.{◌≡◌, ℕ, ◌<◌, length, take, slice_index}
use Rattle.cone_cutter.specs.Loads.{shared_by}
use Rattle.cone_cutter.specs.Tallies.{tallied}
use Rattle.cone_cutter.proofs.loads.count_shared.Given as goal

abbrev pub invariant-loop-leaf : goal.invariant-loop-leaf
invariant-loop-leaf l = record {
  counts : (p : ℕ) → tallied l.planes p ≡ shared_by l.masks (take l.leaf-index l.cone) p;
  long : length l.planes ≡ 64;
}

abbrev pub invariant-loop-digit : goal.invariant-loop-digit
invariant-loop-digit l = (p : ℕ) → p < length l.shared → slice_index l.shared p ≡ tallied (take l.digit l.planes) p
