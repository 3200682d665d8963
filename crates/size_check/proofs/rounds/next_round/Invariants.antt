use Rattle.std.proofs.Common.{◌≡◌, ℕ, suc, map, take}
use Rattle.size_check.specs.Caps.{capped_total}
use Rattle.size_check.specs.Standings.{total_of, standings}
use Rattle.size_check.specs.Rounds.{totals_at}
use Rattle.size_check.proofs.rounds.next_round.Given as goal

abbrev pub invariant-loop-number : goal.invariant-loop-number
invariant-loop-number l = (d : ℕ) → l.totals ≡ totals_at l.names l.modules.all.now d
    → l.next.items ≡ map (λ m. capped_total (total_of l.names l.modules.all.now (standings l.modules.all.now (suc d) m))) (take l.number l.modules.all.now)
