use Rattle.std.proofs.Common.{◌≡◌, ◌++◌, map, take, true}
use Rattle.std.specs.List.{flat_map}
use Rattle.fir_meaning.specs.Components.{Leaf}
use Rattle.fir_meaning.specs.ClockRoot.{Undriven, in_branch, last_of, driven_by}
use Rattle.drive_check.specs.HeldTypes.{types_in}
use Rattle.clock_check.specs.Driving.{driver_of, clocked, arm_driven}
use Rattle.clock_check.specs.Edges.{edges_of, walked, walked_arm}
use Rattle.clock_check.proofs.walk.+walk.Given as goal

abbrev pub invariant-walk_arms-loop-arm : goal.invariant-walk_arms-loop-arm
invariant-walk_arms-loop-arm l = record {
  drivers : (leaf : Leaf) → clocked (types_in l.types) leaf.component ≡ true
      → driver_of l.drivers.known.entries leaf ≡ in_branch (driver_of l.fn.drivers.known.entries leaf) (last_of (map (arm_driven (types_in l.types) leaf) (take l.arm-index l.arms)) Undriven);
  links : edges_of l.links.items ≡ edges_of l.fn.links.items ++ flat_map (λ arm. arm.edges) (map (walked_arm (types_in l.types)) (take l.arm-index l.arms));
}

abbrev pub invariant-walk_block-loop-statement : goal.invariant-walk_block-loop-statement
invariant-walk_block-loop-statement l = record {
  drivers : (leaf : Leaf) → clocked (types_in l.types) leaf.component ≡ true
      → driver_of l.drivers.known.entries leaf ≡ last_of (map (driven_by (types_in l.types) leaf) (take l.statement-index l.statements)) Undriven;
  links : edges_of l.links.items ≡ edges_of l.fn.links.items ++ flat_map (λ s. (walked (types_in l.types) s).inner) (take l.statement-index l.statements);
}
