use Rattle.std.proofs.Common.{◌≡◌, ◌+◌, ◌++◌, map, take, drop}
use Rattle.reset_search.specs.Feeds.{modules_from, all_ports}
use Rattle.reset_resolution.specs.Walked.{ported}
use Rattle.reset_resolution.proofs.gathering.with_ports.Given as goal

abbrev pub invariant-loop-holder : goal.invariant-loop-holder
invariant-loop-holder l = record {
  modules : modules_from l.fn.next l.modules ≡ map ported l.all.items ++ modules_from l.next (drop l.holder-index l.modules);
  next : l.fn.next + all_ports l.modules ≡ l.next + all_ports (drop l.holder-index l.modules);
}
