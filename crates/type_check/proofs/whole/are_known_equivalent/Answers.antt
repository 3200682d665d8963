use Rattle.type_check.proofs.Reaching.{answered}
use Rattle.type_check.proofs.whole.are_known_equivalent.Goals as goal

pub returns : goal.returns
returns c =
    answered c.args.known.now.parts c.args.one.now c.args.other.now c.in_ok-first.first c.in_ok-second.second c.same_class.result c.in_ok-first.ensures c.in_ok-second.ensures
    c.same_class.ensures
