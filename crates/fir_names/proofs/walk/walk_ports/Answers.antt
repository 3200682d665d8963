use Rattle.std.proofs.Common.{rules}
use Rattle.fir_names.specs.Parts.{declares}
use Rattle.fir_names.proofs.Walking.{walks_push}
use Rattle.fir_names.proofs.walk.walk_ports.Goals as goal

pub loop-port-preserved : goal.loop-port-preserved
loop-port-preserved c = walks_push (λ p. declares p.name) c.args.ports.now c.loop-port.port-index c.port-item.result (search rules) (search rules) c.loop-port.invariant c.in_ok-declare.ensures
