use Rattle.std.proofs.Common.{◌≡◌, ◌+◌, ◌++◌, map, take, drop}
use Rattle.reset_search.specs.Feeds.{ports_asyncs}
use Rattle.reset_resolution.proofs.gathering.push_port_asyncs.Given as goal

abbrev pub invariant-loop-port : goal.invariant-loop-port
invariant-loop-port l = l.fn.asyncs ++ ports_asyncs l.ports l.spots ≡ l.asyncs ++ ports_asyncs (drop l.port-index l.ports) l.rest
