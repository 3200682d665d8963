use Rattle.std.proofs.Common.{◌≡◌, ◌++◌, List, length}
use Rattle.std.specs.Prelude.{reverse}
use Rattle.ground_net.specs.declared.ground.Ground.TheVariants.{Mux}
use Rattle.expand_whens.specs.declared.guard.Way.{Way}
use Rattle.expand_whens.specs.Expanding.{IsChoice}
use Rattle.expand_whens.proofs.driver.driver_of.Given as goal

abbrev pub invariant-loop-way : goal.invariant-loop-way
invariant-loop-way l = (done : List Way) × (l.fn.ways.items ≡ l.ways.items ++ done) × IsChoice l.leaf l.number done (Mux (reverse l.items.items))

abbrev pub decreases-loop-way : goal.decreases-loop-way
decreases-loop-way l = length l.ways.items
