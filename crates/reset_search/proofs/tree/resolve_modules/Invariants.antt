use Rattle.std.proofs.Common.{◌≡◌, ◌++◌, drop}
use Rattle.reset_search.specs.Resolved.{resolved_modules}
use Rattle.reset_search.specs.Rows.{marked}
use Rattle.reset_search.proofs.tree.resolve_modules.Given as goal

abbrev pub invariant-loop-holder : goal.invariant-loop-holder
invariant-loop-holder l = resolved_modules (marked l.marks.keys.keys) 0 l.first l.modules ≡ l.made ++ resolved_modules (marked l.marks.keys.keys) l.counters.ports l.counters.next (drop l.holder-index l.modules)
