use Rattle.std.proofs.Common.{◌≡◌, ◌+◌, ◌*◌, map, length}
use Rattle.std.specs.List.{flat_map, range_with_len}
use Rattle.ground_statements.specs.Targets.{equals, under_condition, targets}
use Rattle.ground_statements.proofs.targets.+every_target.Given as goal

abbrev pub decreases-every_target : goal.decreases-every_target
decreases-every_target l = length l.picks.now

abbrev pub invariant-loop-number : goal.invariant-loop-number
invariant-loop-number l = l.listed ≡ flat_map (λ k. map (under_condition (equals l.pick.index k)) (targets l.rest (l.leaf + k * l.pick.stride))) (range_with_len 0 l.number)
