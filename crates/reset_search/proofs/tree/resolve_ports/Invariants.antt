use Rattle.std.proofs.Common.{◌≡◌, ◌+◌, ◌++◌, drop}
use Rattle.reset_search.specs.Feeds.{ports_count}
use Rattle.reset_search.specs.Resolved.{resolved_ports}
use Rattle.reset_search.specs.Rows.{marked}
use Rattle.reset_search.proofs.tree.resolve_ports.Given as goal

abbrev pub invariant-loop-port : goal.invariant-loop-port
invariant-loop-port l = record {
  ports : resolved_ports (marked l.marks.keys.keys) l.fn.next l.ports ≡ l.made ++ resolved_ports (marked l.marks.keys.keys) l.next (drop l.port-index l.ports);
  next : l.fn.next + ports_count l.ports ≡ l.next + ports_count (drop l.port-index l.ports);
}
