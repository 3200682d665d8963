use Rattle.std.proofs.Common.{◌≡◌, ◌++◌, ◌&&◌, map, take, drop, ◌≤◌, length}
use Rattle.std.specs.List.{list_all, flat_map}
use Rattle.fir_meaning.specs.Components.{Leaf}
use Rattle.drive_check.specs.HeldTypes.{types_in}
use Rattle.drive_check.specs.Keys.{is_among}
use Rattle.drive_check.specs.Walks.{any_certain, faults_from, walked, walked_arm}
use Rattle.drive_check.proofs.walk.+walk.Given as goal

abbrev pub invariant-walk_arms-loop-arm : goal.invariant-walk_arms-loop-arm
invariant-walk_arms-loop-arm l = record {
  certain : (leaf : Leaf) → is_among l.certain.keys.keys leaf ≡ (list_all (λ arm. arm.certain leaf) (map (walked_arm (types_in l.types)) (take l.arm-index l.arms)) && is_among l.fn.certain.keys.keys leaf);
  faults : l.faults.items ≡ l.fn.faults.items ++ flat_map (λ arm. arm.faults) (map (walked_arm (types_in l.types)) (take l.arm-index l.arms));
}

abbrev pub invariant-walk_block-loop-at : goal.invariant-walk_block-loop-at
invariant-walk_block-loop-at l = record {
  within : l.at ≤ length l.statements;
  certain : (leaf : Leaf) → is_among l.certain.keys.keys leaf ≡ any_certain (map (walked (types_in l.types)) (drop l.at l.statements)) leaf;
  faults : l.faults.items ≡ l.fn.faults.items ++ faults_from (map (walked (types_in l.types)) (drop l.at l.statements));
}

abbrev pub decreases-walk_block-loop-at : goal.decreases-walk_block-loop-at
decreases-walk_block-loop-at l = l.at
