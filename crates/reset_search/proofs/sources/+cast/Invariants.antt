use Rattle.std.proofs.Common.{◌≡◌, false, take}
use Rattle.std.specs.List.{list_any}
use Rattle.reset_search.specs.Sources.{is_a_cast}
use Rattle.reset_search.proofs.sources.+cast.Given as goal

abbrev pub invariant-any_cast-loop-operand : goal.invariant-any_cast-loop-operand
invariant-any_cast-loop-operand l = list_any is_a_cast (take l.operand-index l.operands) ≡ false
