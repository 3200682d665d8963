use Rattle.ground_statements.proofs.Ends.{connect_is}
use Rattle.ground_statements.proofs.connects.connect.Goals as goal

pub returns : goal.returns
returns c =
    connect_is c.args.known.now.entries c.args.settable.now c.args.left.now c.args.right.now c.in_ok-from_left.from_left c.in_ok-from_right.from_right c.in_ok-first.first c.in_ok-second.second c.in_ok-made.made
    c.in_ok-from_left.ensures c.in_ok-from_right.ensures c.in_ok-first.ensures c.in_ok-second.ensures c.requires.alike c.in_ok-made.ensures
