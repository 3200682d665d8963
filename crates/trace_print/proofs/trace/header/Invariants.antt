use Rattle.std.proofs.Common.{◌≡◌, ◌++◌, flat_map, codes, take}
use Rattle.trace_print.proofs.trace.header.Given as goal

abbrev pub invariant-loop-name : goal.invariant-loop-name
invariant-loop-name l = l.line.items ≡ codes "cycle" ++ flat_map (λ name. codes " " ++ name) (take l.name-index l.names)
