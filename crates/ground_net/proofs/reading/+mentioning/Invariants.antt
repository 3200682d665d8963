use Rattle.std.proofs.Common.{◌≡◌, ◌++◌, take, map}
use Rattle.ground_net.specs.Grounds.{mentions, joined}
use Rattle.ground_net.proofs.reading.+mentioning.Given as goal

abbrev pub invariant-push_all-loop-ground : goal.invariant-push_all-loop-ground
invariant-push_all-loop-ground l = l.row.items ≡ l.fn.row.items ++ joined (map mentions (take l.ground-index l.grounds))
