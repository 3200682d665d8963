use Rattle.std.proofs.Common.{take, map}
use Rattle.width_rules.specs.Walks.{AreInstances, ported}
use Rattle.width_rules.proofs.gathering.instances_of.Given as goal

abbrev pub invariant-loop-held : goal.invariant-loop-held
invariant-loop-held l = AreInstances (map ported (take l.held-index l.modules)) l.instances.entries
