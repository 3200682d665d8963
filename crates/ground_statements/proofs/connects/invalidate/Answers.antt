use Rattle.ground_statements.proofs.Ends.{invalidate_is}
use Rattle.ground_statements.proofs.connects.invalidate.Goals as goal

pub returns : goal.returns
returns c =
    invalidate_is c.args.known.now.entries c.args.settable.now c.args.target.now c.new.result c.new-2.result c.in_ok-first.first c.in_ok-second.second c.in_ok-made.made
    c.new.ensures c.new-2.ensures c.in_ok-first.ensures c.in_ok-second.ensures c.in_ok-made.ensures
