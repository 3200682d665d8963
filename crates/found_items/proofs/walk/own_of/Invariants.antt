use Rattle.std.proofs.Common.{take}
use Rattle.std.specs.List.{AllZip}
use Rattle.found_items.specs.Walking.{IsItemAt}
use Rattle.found_items.proofs.walk.own_of.Given as goal

abbrev pub invariant-loop-number : goal.invariant-loop-number
invariant-loop-number l = AllZip (IsItemAt l.table.fitted.now.checked.resolved.names l.table.fitted.now.checked.resolved.prints l.firsts.entries) (take l.number-index l.own) l.items.items
