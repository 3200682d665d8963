use Rattle.std.proofs.Common.{length, ◌-◌}
use Rattle.asked_texts.proofs.Searching.{Searched}
use Rattle.asked_texts.proofs.texts.split.Given as goal

abbrev pub invariant-lines : goal.invariant-lines
invariant-lines l = Searched l.text l.start

abbrev pub decreases-lines : goal.decreases-lines
decreases-lines l = length l.text - l.start
