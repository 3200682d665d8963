use Rattle.std.proofs.Common.{◌≡◌, ◌+◌, drop}
use Rattle.reset_search.specs.Feeds.{ports_count}
use Rattle.reset_search.proofs.tree.skip_own.Given as goal

abbrev pub invariant-loop-port : goal.invariant-loop-port
invariant-loop-port l = l.fn.next + ports_count l.ports ≡ l.next + ports_count (drop l.port-index l.ports)
