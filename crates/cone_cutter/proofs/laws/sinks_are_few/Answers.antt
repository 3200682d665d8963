use Rattle.cone_cutter.proofs.SinkCount.{sinks_few}
use Rattle.cone_cutter.proofs.laws.sinks_are_few.Goals as goal

pub returns : goal.returns
returns c = sinks_few
