use Rattle.std.proofs.Common.{◌∙◌, ◌++◌, ap, sym}
use Rattle.drive_check.specs.HeldTypes.{types_in}
use Rattle.drive_check.proofs.Blocks.{on_ok}
use Rattle.clock_check.specs.Driving.{driver_of}
use Rattle.clock_check.specs.Edges.{edges_of}
use Rattle.clock_check.proofs.Walking.{own-node}
use Rattle.clock_check.proofs.walk.push_declared.Goals as goal

pub returns-in-Node : goal.returns-in-Node
returns-in-Node c =
    on_ok c.push_node.result
    (λ h. h ∙ ap (λ l. edges_of c.args.links.now.items ++ l)
    (sym (own-node (types_in c.args.types.now) c.args.statement.now c.in-Node.name c.in-Node.expr c.in-Node.is (driver_of c.args.drivers.now.known.entries))))
    c.push_node.ensures
