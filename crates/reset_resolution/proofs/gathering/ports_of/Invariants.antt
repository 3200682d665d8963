use Rattle.std.proofs.Common.{◌≡◌, ◌+◌, ◌++◌, map, take, drop}
use Rattle.reset_search.specs.Feeds.{ports_from, ports_count}
use Rattle.reset_resolution.proofs.gathering.ports_of.Given as goal

abbrev pub invariant-loop-port : goal.invariant-loop-port
invariant-loop-port l = record {
  spots : ports_from l.fn.next l.ports ≡ l.all ++ ports_from l.next (drop l.port-index l.ports);
  next : l.fn.next + ports_count l.ports ≡ l.next + ports_count (drop l.port-index l.ports);
}
