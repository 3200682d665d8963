use Rattle.std.proofs.Common.{◌≡◌, ℕ, take}
use Rattle.std.specs.List.{flat_map}
use Rattle.size_check.specs.declared.sums.Total.{Total}
use Rattle.size_check.specs.Caps.{capped_total}
use Rattle.size_check.specs.Standings.{add, total_of, of_call, standings}
use Rattle.size_check.specs.Rounds.{totals_at}
use Rattle.size_check.proofs.rounds.with_calls.Given as goal

abbrev pub invariant-loop-number : goal.invariant-loop-number
invariant-loop-number l = (d : ℕ) (before : Total) → l.fn.own ≡ capped_total before → l.totals ≡ totals_at l.names l.modules.all.now d
    → l.total ≡ capped_total (add before (total_of l.names l.modules.all.now (flat_map (of_call l.modules.all.now (standings l.modules.all.now d)) (take l.number l.calls))))
