use Rattle.std.proofs.Common.{◌-◌, length}
use Rattle.cone_cutter.specs.Walks.{Walking}
use Rattle.cone_cutter.proofs.walking.walk.Given as goal

abbrev pub invariant-going : goal.invariant-going
invariant-going l = Walking l.reads l.roots l.stamp l.place l.fn.stamps l.stamps l.found.items

abbrev pub decreases-going : goal.decreases-going
decreases-going l = length l.stamps - l.place
