use Rattle.net_run.specs.Keeping.{AreZeros}
use Rattle.net_run.proofs.beginning.first_held.Given as goal

abbrev pub invariant-loop : goal.invariant-loop
invariant-loop l = AreZeros l.memory l.counter l.held.items
