use Rattle.cone_cutter.proofs.Marks.{or_has}
use Rattle.cone_cutter.proofs.marking.both.Goals as goal

pub returns : goal.returns
returns c = or_has c.args.first c.args.second
