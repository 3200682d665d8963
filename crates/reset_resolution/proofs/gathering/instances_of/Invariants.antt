use Rattle.std.proofs.Common.{◌≡◌, ◌+◌, ◌++◌, map, take, drop}
use Rattle.reset_resolution.specs.Walked.{AreInstances, ported}
use Rattle.reset_resolution.proofs.gathering.instances_of.Given as goal

abbrev pub invariant-loop-held : goal.invariant-loop-held
invariant-loop-held l = AreInstances (map ported (take l.held-index l.modules)) l.instances.entries
