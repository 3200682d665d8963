use Rattle.std.proofs.Common.{sym}
use Rattle.ground_statements.proofs.Closing.{node_made}
use Rattle.ground_statements.proofs.body.lower_node.Goals as goal

pub returns-in_ok-made-in-Some : goal.returns-in_ok-made-in-Some
returns-in_ok-made-in-Some c =
    node_made c.args.known.now.entries c.args.name c.args.sources c.in_ok-made-in-Some.made c.in-Some.component.now (sym c.in-Some.ensures.value) c.in_ok-made-in-Some.ensures
