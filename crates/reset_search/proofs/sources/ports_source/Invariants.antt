use Rattle.std.proofs.Common.{◌≡◌, false, take}
use Rattle.std.specs.List.{list_any}
use Rattle.reset_search.specs.Sources.{port_source}
use Rattle.reset_search.proofs.sources.ports_source.Given as goal

abbrev pub invariant-loop-port : goal.invariant-loop-port
invariant-loop-port l = list_any port_source (take l.port-index l.ports) ≡ false
