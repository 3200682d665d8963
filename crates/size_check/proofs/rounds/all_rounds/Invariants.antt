use Rattle.std.proofs.Common.{◌≡◌}
use Rattle.size_check.specs.Rounds.{totals_at}
use Rattle.size_check.proofs.rounds.all_rounds.Given as goal

abbrev pub invariant-loop : goal.invariant-loop
invariant-loop l = l.totals.items ≡ totals_at l.names l.modules.all.now l.counter
