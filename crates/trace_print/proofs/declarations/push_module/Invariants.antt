use Rattle.std.proofs.Common.{◌≡◌, ◌++◌, map, take}
use Rattle.trace_print.proofs.declarations.push_module.Given as goal

abbrev pub invariant-loop-port : goal.invariant-loop-port
invariant-loop-port l = l.all.items ≡ l.fn.all.items ++ map (λ port. record { holder = l.holder.name.id; name = port.name.id; listed = l.reached }) (take l.port-index l.port-items)
