use Rattle.std.proofs.Common.{◌≡◌, map, drop}
use Rattle.reset_search.specs.Feeds.{reached_by, signs_of}
use Rattle.reset_resolution.proofs.Ranging.{before}
use Rattle.reset_resolution.proofs.reaching.+reach.Given as goal

abbrev pub invariant-kinds_of-loop-operand : goal.invariant-kinds_of-loop-operand
invariant-kinds_of-loop-operand l =
    signs_of (map (λ e. reached_by e l.scope.known.now.entries) l.operands) ≡ before l.kinds (signs_of (map (λ e. reached_by e l.scope.known.now.entries) (drop l.operand-index l.operands)))
