use Rattle.std.proofs.Common.{◌≡◌, ◌++◌, ℕ, List, true, false, length, drop, take, ◌≤◌}
use Rattle.std.specs.Global.{Vec}
use Rattle.ground_net.specs.declared.circuit.GroundStmt.{GroundStmt}
use Rattle.expand_whens.specs.declared.guard.Asked.{Asked}
use Rattle.expand_whens.specs.declared.guard.Way.{Way}
use Rattle.expand_whens.specs.Ways.{refusals}
use Rattle.expand_whens.specs.Walking.{BlockWalks, ArmsWalk, BlockShapes, ArmsShapes, Marks, has, is_covered}
use Rattle.expand_whens.proofs.walk.+walk.Given as goal

abbrev pub invariant-walk_block-loop-left : goal.invariant-walk_block-loop-left
invariant-walk_block-loop-left l = record {
  within : l.left ≤ length l.block;
  asked : l.asked.items ≡ l.fn.asked.items;
  marks : Marks l.certain.items true l.fn.covered.items l.covered.items;
  walks : BlockWalks l.fn.asked.items (drop l.left l.block) l.fn.covered.items l.fn.ways.items l.ways.items l.certain.items;
  shapes : BlockShapes l.fn.asked.items (drop l.left l.block) l.fn.ways.items l.ways.items;
}

abbrev pub invariant-walk_arms-loop-left : goal.invariant-walk_arms-loop-left
invariant-walk_arms-loop-left l = record {
  within : l.left ≤ length l.arms;
  same : l.covered.items ≡ l.fn.covered.items;
  counted : length l.ways.items ≡ length l.fn.ways.items;
  uncovered : (leaf : ℕ) → has l.all.items leaf ≡ true → is_covered l.fn.covered.items leaf ≡ false;
  asked : (before : List Asked) (first : ℕ) → l.fn.asked.items ≡ before ++ refusals first l.arms → l.asked.items ≡ before ++ refusals first (take l.left l.arms);
  walks : (before : List Asked) (first : ℕ) (other : List GroundStmt) (old : List (Vec Way)) → l.fn.asked.items ≡ before ++ refusals first l.arms
      → BlockWalks l.fn.asked.items other l.fn.covered.items old l.fn.ways.items l.fn.certain.items
      → ArmsWalk (before ++ refusals first (take l.left l.arms)) first (drop l.left l.arms) other l.fn.covered.items old l.ways.items l.all.items;
  shapes : (before : List Asked) (first : ℕ) → l.fn.asked.items ≡ before ++ refusals first l.arms → ArmsShapes (before ++ refusals first (take l.left l.arms)) (drop l.left l.arms) l.fn.ways.items l.ways.items;
}

abbrev pub decreases-walk_arms-loop-left : goal.decreases-walk_arms-loop-left
decreases-walk_arms-loop-left l = l.left

abbrev pub decreases-walk_block-loop-left : goal.decreases-walk_block-loop-left
decreases-walk_block-loop-left l = l.left
