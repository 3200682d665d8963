use Rattle.std.proofs.Common.{ap}
use Rattle.drive_check.specs.Sites.{port_name_in}
use Rattle.drive_check.proofs.Driving.{port_found, other_port, no_port}
use Rattle.drive_check.proofs.undriven.place_of_port.Goals as goal
use Rattle.drive_check.proofs.undriven.place_of_port.Goals.{in-MemPort+else-name-port, in_default}

pub returns-then-name-port : goal.returns-then-name-port
returns-then-name-port c = port_found c.args.lines.now c.loop-line.line-index c.line-item.result c.in-MemPort.name c.args.port c.args.other c.loop-line-test.true c.line-item.is c.loop-line.invariant
    (ap port_name_in c.in-MemPort.is) c.if-name-port.true

pub loop-line-preserved : goal.loop-line-preserved
loop-line-preserved c = elim c.match-line.branch [
  | in-MemPort+else-name-port w ↦ other_port c.args.lines.now c.loop-line.line-index c.line-item.result w.in-MemPort.name c.args.port c.loop-line-test.true c.line-item.is c.loop-line.invariant
      (ap port_name_in w.in-MemPort.is) w.if-name-port.false
  | in_default w ↦ no_port c.args.lines.now c.loop-line.line-index c.line-item.result c.args.port c.loop-line-test.true c.line-item.is c.loop-line.invariant w.in_default.not-MemPort
]
