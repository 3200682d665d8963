use Rattle.std.proofs.Common.{arith}
use Rattle.flatten_instances.proofs.Walking.{fair_first}
use Rattle.flatten_instances.proofs.Visiting.{main_is_sound}
use Rattle.flatten_instances.proofs.Disjointness.{all_own}
use Rattle.flatten_instances.proofs.laws.instances_leaves_stand_inside.Goals as goal

pub returns : goal.returns
returns c = λ driven main m child items a i j s gi h found order at within there inside lt.
    all_own driven (main_is_sound driven h) found (fair_first driven main) (λ k gk other below. absurd (omega arith)) order a s at m i j gi child within there inside lt
