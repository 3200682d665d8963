use Rattle.reference_flow.proofs.Ports.{field-signal}
use Rattle.reference_flow.proofs.component.field_of_port.Goals as goal

pub returns-then-id-le-CLK : goal.returns-then-id-le-CLK
returns-then-id-le-CLK c = field-signal c.args.memory.now c.args.mode c.args.id c.if-id-le-CLK.true
