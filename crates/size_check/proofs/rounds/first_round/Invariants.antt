use Rattle.std.proofs.Common.{◌≡◌, map, take}
use Rattle.size_check.proofs.rounds.first_round.Given as goal

abbrev pub invariant-loop-own : goal.invariant-loop-own
invariant-loop-own l = l.totals.items ≡ map (λ own. record { sums = own; depth = 0 }) (take l.own-index l.owns)
