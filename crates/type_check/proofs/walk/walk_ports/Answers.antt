use Rattle.std.proofs.Common.{rules}
use Rattle.type_check.specs.Statements.{port_walk}
use Rattle.type_check.proofs.Walking.{walks_push}
use Rattle.type_check.proofs.walk.walk_ports.Goals as goal

pub loop-port-preserved : goal.loop-port-preserved
loop-port-preserved c = walks_push port_walk c.args.ports.now c.loop-port.port-index c.port-item.result (search rules) (search rules) c.loop-port.invariant c.in_ok-declare_port.ensures
