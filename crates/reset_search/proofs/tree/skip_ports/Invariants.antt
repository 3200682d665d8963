use Rattle.std.proofs.Common.{◌≡◌, ◌+◌, drop}
use Rattle.reset_search.specs.Feeds.{all_ports}
use Rattle.reset_search.proofs.tree.skip_ports.Given as goal

abbrev pub invariant-loop-holder : goal.invariant-loop-holder
invariant-loop-holder l = l.fn.next + all_ports l.modules ≡ l.next + all_ports (drop l.holder-index l.modules)
