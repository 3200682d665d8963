use Rattle.std.proofs.Common.{◌≡◌, ◌++◌, drop}
use Rattle.trace_print.specs.Components.{components_of}
use Rattle.trace_print.proofs.declarations.components.Given as goal

abbrev pub invariant-loop-module : goal.invariant-loop-module
invariant-loop-module l = components_of l.checked.resolved.modules l.checked.scope.reached ≡ l.all.items ++ components_of (drop l.module-index l.module-items) l.rest
