use Rattle.std.proofs.Common.{◌≡◌, ◌++◌, take}
use Rattle.code_emit.proofs.forms.joined.Given as goal

abbrev pub invariant-loop-location : goal.invariant-loop-location
invariant-loop-location l = l.all ≡ l.fn.front ++ take l.location-index l.back
