use Rattle.std.proofs.Common.{◌≡◌}
use Rattle.token_reader.specs.LineStarts.{starts_to}
use Rattle.token_reader.proofs.text.lines_of.Given as goal

abbrev pub invariant-loop-at : goal.invariant-loop-at
invariant-loop-at l = l.lines ≡ starts_to l.text l.at
