use Rattle.std.proofs.Common.{◌≡◌, false, take}
use Rattle.std.specs.List.{list_any}
use Rattle.reset_search.specs.Sources.{stmt_source, arm_source}
use Rattle.reset_search.proofs.sources.+source.Given as goal

abbrev pub invariant-any_source-loop-statement : goal.invariant-any_source-loop-statement
invariant-any_source-loop-statement l = list_any stmt_source (take l.statement-index l.statements) ≡ false

abbrev pub invariant-any_arm_source-loop-arm : goal.invariant-any_arm_source-loop-arm
invariant-any_arm_source-loop-arm l = list_any arm_source (take l.arm-index l.arms) ≡ false
