use Rattle.width_rules.proofs.Ends.{AreEnds}
use Rattle.width_rules.proofs.lists.ends_of.Given as goal

abbrev pub invariant-loop-own : goal.invariant-loop-own
invariant-loop-own l = AreEnds l.lists l.own-index l.ends.items l.end
