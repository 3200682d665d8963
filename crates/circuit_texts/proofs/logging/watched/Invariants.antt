use Rattle.std.proofs.Common.{◌≡◌, ◌++◌, take}
use Rattle.std.specs.List.{flat_map}
use Rattle.found_items.specs.declared.found.ItemAt.{ItemAt}
use Rattle.circuit_texts.proofs.logging.watched.Given as goal

abbrev pub invariant-loop-it : goal.invariant-loop-it
invariant-loop-it l = l.watch ≡ flat_map (λ (it : ItemAt). it.leaves) (take l.it-index l.found)

abbrev pub invariant-loop-leaf : goal.invariant-loop-leaf
invariant-loop-leaf l = l.watch ≡ l.initial.watch ++ take l.leaf-index l.leaf-items
