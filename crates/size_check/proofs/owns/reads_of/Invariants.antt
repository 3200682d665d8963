use Rattle.std.proofs.Common.{◌≡◌, map, sum, take}
use Rattle.size_check.specs.Caps.{cap}
use Rattle.size_check.specs.Owns.{reads_in}
use Rattle.size_check.proofs.owns.reads_of.Given as goal

abbrev pub invariant-loop-line : goal.invariant-loop-line
invariant-loop-line l = l.count ≡ cap (sum (map reads_in (take l.line-index l.lines)))
