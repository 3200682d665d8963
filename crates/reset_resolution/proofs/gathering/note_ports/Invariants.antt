use Rattle.std.proofs.Common.{◌≡◌, ◌+◌, ◌++◌, map, take, drop}
use Rattle.std.specs.Vec.Iter.{into_iter_items}
use Rattle.reset_search.specs.Feeds.{known_ports}
use Rattle.reset_resolution.proofs.gathering.note_ports.Given as goal

abbrev pub invariant-loop-port : goal.invariant-loop-port
invariant-loop-port l = known_ports l.ports l.fn.spots l.fn.known.entries ≡ known_ports (drop l.port-index l.ports) (into_iter_items l.all) l.known.entries
