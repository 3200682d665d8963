use Rattle.std.proofs.Common.{map, take}
use Rattle.circuit_texts.specs.Watched.{ArePrints}
use Rattle.circuit_texts.proofs.logging.printed.Given as goal

abbrev pub invariant-loop-it : goal.invariant-loop-it
invariant-loop-it l = ArePrints l.prints (take l.it-index l.found) (map (λ item. item.now) l.items)
