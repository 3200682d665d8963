use Rattle.std.proofs.Common.{◌≡◌, take}
use Rattle.reset_search.proofs.copies.copy_prints.Given as goal

abbrev pub invariant-loop-item : goal.invariant-loop-item
invariant-loop-item l = l.copied ≡ take l.item-index l.prints
