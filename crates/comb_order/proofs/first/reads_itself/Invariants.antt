use Rattle.std.proofs.Common.{◌+◌, ◌*◌, length, sum_by}
use Rattle.comb_order.specs.Reach.{Reaching}
use Rattle.comb_order.proofs.first.reads_itself.Given as goal

abbrev pub invariant-going : goal.invariant-going
invariant-going l = Reaching l.reads l.vertex l.marks l.waiting.items

abbrev pub decreases-going : goal.decreases-going
decreases-going l = 2 * sum_by (λ x. x) l.marks + length l.waiting.items
