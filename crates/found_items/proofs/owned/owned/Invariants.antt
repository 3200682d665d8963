use Rattle.found_items.proofs.Owning.{OwnUpTo}
use Rattle.found_items.proofs.owned.owned.Given as goal

abbrev pub invariant-loop-at : goal.invariant-loop-at
invariant-loop-at l = OwnUpTo l.count l.prints l.at l.own.items
