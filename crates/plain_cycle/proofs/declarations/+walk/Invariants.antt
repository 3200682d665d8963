use Rattle.std.proofs.Common.{◌≡◌, ◌++◌, map, take}
use Rattle.std.specs.List.{flat_map}
use Rattle.plain_cycle.specs.Held.{held, declared_in_arm}
use Rattle.plain_cycle.proofs.Telling.{kept_from}
use Rattle.plain_cycle.proofs.declarations.+walk.Given as goal

abbrev pub invariant-push_block-loop-statement : goal.invariant-push_block-loop-statement
invariant-push_block-loop-statement l = map held l.all.items ++ kept_from l.block l.statement-index ≡ map held l.fn.all.items ++ kept_from l.block 0

abbrev pub invariant-push_arms-loop-arm : goal.invariant-push_arms-loop-arm
invariant-push_arms-loop-arm l = map held l.all.items ≡ map held l.fn.all.items ++ flat_map declared_in_arm (take l.arm-index l.arms)
